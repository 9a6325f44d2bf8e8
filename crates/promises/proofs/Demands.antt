-- The demands hold.
use native.Mathlib.Omega.{arith}
use Rattle.shape.proofs.OneDoc.{one_doc}
use Rattle.values.proofs.Exact.{number_exactly}
use Rattle.code.proofs.Sound.{sound_exactly}
use Rattle.loader.proofs.Exact as loader
use Rattle.converter.proofs.Once.{meets_once}
use Rattle.read_back.proofs.Places.{meets_top}
use Rattle.event_rules.specs.Calls.{fresh, no_counts}
use Rattle.event_rules.proofs.Named.{answer_named}
use Rattle.event_rules.proofs.HistoryLaws.{counts_history, sum_history, chain_there}
use Rattle.replay.proofs.Replays.{replays_once}
use Rattle.replay.proofs.Numbers.{byte_exactly}
use Rattle.promises.specs.Promises.{Demand1, Demand2, Demand3}
use Rattle.promises.proofs.Refusals.{about_files, about_converting, about_plans, about_loading, about_events, record_kept, numbers_in}
use Rattle.promises.proofs.Accepts.{accepted_so, short_so, meets_so, meets_then, whole_so}
use Rattle.promises.proofs.Runs.{own_config, same_run_as, plan_taken, safe_codes}

pub demand_1 : Demand1
demand_1 = record {
  files = about_files;
  c_files = about_converting;
  plans = about_plans;
  one_plan = λ ws r r' a b. loader.loads_once a b;
  c_plans = about_loading;
  events = about_events;
  host_record = λ ws en k after e o a h n g. record_kept ws en k e after o a h n g;
  c_answer = byte_exactly;
  named = answer_named;
  numbers = numbers_in;
  one_replay = λ ws events k out x y a b. replays_once a b;
}

pub demand_2 : Demand2
demand_2 = record {
  accepted = λ s d r out ws h l. (λ e. meets_so s d r out ws h e.0 e.1, λ m. accepted_so s d r out ws h m l);
  without_room = short_so;
  only_then = meets_then;
  one_plan = meets_once;
  one_document = one_doc;
  few_words = meets_top;
  no_mark_skipped = number_exactly;
  whole_values = whole_so;
}

pub demand_3 : Demand3
demand_3 = record {
  has_config = own_config;
  same_run = same_run_as;
  some_calls = λ ws es. chain_there ws fresh no_counts es;
  taken = plan_taken;
  safe_code = safe_codes;
  code_exactly = sound_exactly;
  counts = λ c es. counts_history c fresh no_counts es;
  sum = λ c es. omega (arith, sum_history c fresh no_counts es);
}
