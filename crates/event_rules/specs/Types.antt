-- The declared types that the rules speak of, under one roof; nothing is defined here.
pub use Rattle.records.specs.declared.Cause.{Cause}
pub use Rattle.records.specs.declared.Cause.TheVariants.{Id, Length, Error, Startup}
pub use Rattle.records.specs.declared.Timeout.{Timeout}
pub use Rattle.records.specs.declared.Timeout.TheVariants.{Forever, Ms}
pub use Rattle.records.specs.declared.Trigger.{Trigger}
pub use Rattle.records.specs.declared.Effect.{Effect}
pub use Rattle.records.specs.declared.Effect.TheVariants.{Pass, Stop}
pub use Rattle.records.specs.declared.Filter.{Filter}
pub use Rattle.records.specs.declared.Action.{Action}
pub use Rattle.records.specs.declared.Action.TheVariants.{StartLog, StopLog, StopLogCompletely}
pub use Rattle.event_rules.specs.declared.Frame.{Frame}
pub use Rattle.event_rules.specs.declared.Event.{Event}
pub use Rattle.event_rules.specs.declared.Event.TheVariants.{Frame as frame, Tick as tick}
pub use Rattle.event_rules.specs.declared.Logging.{Logging}
pub use Rattle.event_rules.specs.declared.Logging.TheVariants.{Off, On, Ending, EndingCompletely, Halted}
pub use Rattle.event_rules.specs.declared.Firing.{Firing}
pub use Rattle.event_rules.specs.declared.Engine.{Engine}
pub use Rattle.event_rules.specs.declared.Counts.{Counts}
pub use Rattle.event_rules.specs.declared.Refusal.{Refusal}
pub use Rattle.event_rules.specs.declared.Refusal.TheVariants.{NoPlan, NoChannel, BadTime, OutOfRange, CountsFull, CodeFault, Other}
pub use Rattle.event_rules.specs.declared.Answer.{Answer}
pub use Rattle.event_rules.specs.declared.Outcome.{Outcome}
