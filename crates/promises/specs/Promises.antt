-- Paper 01, "What the contracts settle", and the three demands on converter, loader and engine, as statements over their contracts.
-- proofs/Demands.antt proves them.
use Rattle.std.specs.Prelude.{ℕ, ◌*◌, ◌/◌, ◌%◌, ◌≤◌, ◌<◌, ◌≡◌, ◌↔◌, List, ◌++◌, Bool, true, length, take, drop, Option, Some}
use Rattle.std.proofs.Math.Option.{none, some}
use Rattle.lists.specs.Lists.{Every}
use Rattle.text.specs.Texts.{bytes, same}
use Rattle.shape.specs.Shape.{Node, WellShaped}
use Rattle.values.specs.Numbers.{IsNumber}
use Rattle.values.specs.NumbersCode.{number_spelt}
use Rattle.schema.specs.Schema.{rules_of}
use Rattle.code.specs.Code.{KnownTriggers, Runs}
use Rattle.code.specs.HeightsCode.{sound_code}
use Rattle.loader.specs.declared.Layout.{Layout}
use Rattle.loader.specs.Plan.{PlanOf, Loads, load_refusal}
use Rattle.file_rules.specs.Element.{ReadsWhole, text_of, channel_of, good_of}
use Rattle.file_rules.specs.Document.{known_elements}
use Rattle.std.specs.Prelude.{Ok, Err}
use Rattle.converter.specs.Converter.{Meets, Refuses, Converts, convert_answer, Converted}
use Rattle.converter_c.specs.Calls.{Converting}
use Rattle.event_rules.specs.declared.Event.{Event}
use Rattle.event_rules.specs.declared.Refusal.{Refusal}
use Rattle.event_rules.specs.declared.Engine.{Engine}
use Rattle.event_rules.specs.declared.Counts.{Counts}
use Rattle.event_rules.specs.declared.Answer.TheVariants.{Refused}
use Rattle.event_rules.specs.declared.Outcome.{Outcome}
use Rattle.event_rules.specs.Rules.{Config}
use Rattle.event_rules.specs.Calls.{fresh, no_counts, refusal_number, Named, event_refusal, answer_refusal, step, config_of, Answers}
use Rattle.event_rules.specs.History.{outcomes, CallsInTurn, counted_all, counts_after, sum_of, accepted_frames}
use Rattle.replay.specs.Wire.{answer_byte}
use Rattle.replay.specs.Replay.{replayed, events_answered, Replays}
use Rattle.logger_c.specs.Calls.{Loading}
use Rattle.promises.specs.Own.{Says}

-- ---- 1. "Converter, loader and engine answer every input and end. A bad file, plan or event gets the paper's refusal number at the
-- place it names; then no plan word is written, and logging state and counts stand as before." That they answer and end is part of what
-- is proved of every function. Here: which answer, that there is no other, and what stays.

-- an event's refusal: 20 where the words are no plan, else what the rules of one event say
pub data Rejects (ws : List ℕ) (en : Engine) (k : Counts) (e : Event) (n : ℕ) : Type 0 where
  no_plan : (PlanOf ws → ⊥) → n ≡ 20 → Rejects ws en k e n
  by_rules : (p : PlanOf ws) (r : Refusal) → event_refusal (config_of p.plan) en k e ≡ Some r → n ≡ refusal_number r → Rejects ws en k e n

-- a file: refused with n at p exactly if the rules refuse it so
pub record AboutFiles (s d : List ℕ) (r : Converted) (out : List ℕ) : Type 0 where
  pub exactly : (n p : ℕ) → ((convert_answer r ≡ (n, p)) × (1 ≤ n)) ↔ Refuses s (length d) n p
  pub stays : (n p : ℕ) → Refuses s (length d) n p → out ≡ d
  pub only : (r' : Converted) (out' : List ℕ) → Converts s d r' out' → (r ≡ r') × (out ≡ out')

-- the same from C: a refusal's number above its place, or the plan's length
pub record AboutConverting (s d : List ℕ) (r : ℕ) (out : List ℕ) : Type 0 where
  pub exactly : (n p : ℕ) → ((r / 4294967296 ≡ n) × (r % 4294967296 ≡ p) × (1 ≤ n)) ↔ Refuses s (length d) n p
  pub words : (n : ℕ) → ((r / 4294967296 ≡ 0) × (r % 4294967296 ≡ n)) ↔ Converts s d (Ok n) out
  pub stays : (n p : ℕ) → Refuses s (length d) n p → out ≡ d
  pub only : (r' : ℕ) (out' : List ℕ) → Converting s d r' out' → (r ≡ r') × (out ≡ out')

-- an event
pub record AboutEvents (ws : List ℕ) (en : Engine) (k : Counts) (e : Event) (o : Outcome) : Type 0 where
  pub exactly : (n : ℕ) → (answer_refusal o.answer ≡ Some (n, 0)) ↔ Rejects ws en k e n
  -- what refuses it has a name
  pub named : (r : Refusal) → o.answer ≡ Refused r → Named r
  pub stays : (n : ℕ) → Rejects ws en k e n → (o.engine ≡ en) × (o.counts ≡ k)
  pub only : (o' : Outcome) → Answers ws en k e o' → o ≡ o'

pub record Demand1 : Type 0 where
  pub files : (s d : List ℕ) (r : Converted) (out : List ℕ) → Converts s d r out → AboutFiles s d r out
  pub c_files : (s d : List ℕ) (r : ℕ) (out : List ℕ) → Converting s d r out → AboutConverting s d r out
  pub plans : (ws : List ℕ) (r : Option Layout) → Loads ws r
      → ((load_refusal r ≡ some (20, 0)) ↔ (PlanOf ws → ⊥)) × ((load_refusal r ≡ none) ↔ PlanOf ws)
  pub one_plan : (ws : List ℕ) (r r' : Option Layout) → Loads ws r → Loads ws r' → r ≡ r'
  pub c_plans : (ws : List ℕ) (r : ℕ) → Loading ws r → ((r ≡ 20) ↔ (PlanOf ws → ⊥)) × ((r ≡ 0) ↔ PlanOf ws)
  pub events : (ws : List ℕ) (en : Engine) (k : Counts) (e : Event) (o : Outcome) → Answers ws en k e o → AboutEvents ws en k e o
  -- the host's record, which becomes the outcome's counts, stands as before
  pub host_record : (ws : List ℕ) (en : Engine) (k after : Counts) (e : Event) (o : Outcome) → Answers ws en k e o → after ≡ o.counts
      → (n : ℕ) → Rejects ws en k e n → after ≡ k
  -- a replay's byte tells a refusal, and all bytes are settled
  pub c_answer : (c : Config) (en : Engine) (k : Counts) (e : Event) (n : ℕ) → 20 ≤ n
      → (answer_byte (step c en k e).answer ≡ n) ↔ (answer_refusal (step c en k e).answer ≡ Some (n, 0))
  -- by any rules, what refuses an event has a name
  pub named : (c : Config) (en : Engine) (k : Counts) (e : Event) (r : Refusal) → (step c en k e).answer ≡ Refused r → Named r
  -- on any history every refusal is one of 20 to 24: no call finds a fault in the code that it runs
  pub numbers : (ws : List ℕ) (en : Engine) (k : Counts) (es : List Event) (os : List Outcome) → CallsInTurn ws en k es os
      → Every (λ o. (n : ℕ) → answer_refusal o.answer ≡ Some (n, 0) → (20 ≤ n) × (n ≤ 24)) os
  pub one_replay : (ws events : List ℕ) (k : Counts) (out a b : List ℕ) → Replays ws events k out a → Replays ws events k out b → a ≡ b

-- ---- 2. "Given room, a file is accepted exactly if it meets the rules, and the plan holds exactly the numbers they give. No mark inside a
-- number is ever skipped."
pub record Demand2 : Type 0 where
  pub accepted : (s d : List ℕ) (r : Converted) (out ws : List ℕ) → Converts s d r out → length ws ≤ length d
      → ((r ≡ Ok (length ws)) × (out ≡ ws ++ drop (length ws) d)) ↔ Meets s ws
  pub without_room : (s d : List ℕ) (r : Converted) (out ws : List ℕ) → Converts s d r out → Meets s ws → length d < length ws
      → r ≡ Err (record { number = 13; place = length ws })
  pub only_then : (s d : List ℕ) (n : ℕ) (out : List ℕ) → Converts s d (Ok n) out → (ws : List ℕ) × Meets s ws × (n ≡ length ws)
  pub one_plan : (s ws vs : List ℕ) → Meets s ws → Meets s vs → ws ≡ vs
  pub one_document : (s : List ℕ) (x y : Node) → WellShaped s x → WellShaped s y → x ≡ y
  -- "at most 1,590 words"
  pub few_words : (s ws : List ℕ) → Meets s ws → length ws ≤ 1590
  pub no_mark_skipped : (t : List ℕ) (v : ℕ) → (number_spelt t ≡ Some v) ↔ IsNumber t v
  -- and every number is that of a whole value, or of a CHANNEL's whole trimmed text
  pub whole_values : (s ws : List ℕ) (m : Meets s ws)
      → Every (λ k. Every (ReadsWhole k) (rules_of k.name)
      × (same k.name (bytes "CHANNEL") ≡ true → IsNumber (text_of k) (good_of (channel_of k)))) (known_elements m.document)

-- ---- 3. "For any accepted file and any list of events fed to a fresh engine, event by event the plan gives the same answer, logging
-- state and counts as the rules applied to the file itself, its expressions read as written with their brackets."

-- calls with the words ws give what the rules give on c: one from any state, a list of them from fresh, and a replay's bytes
pub record SameRun (ws : List ℕ) (c : Config) : Type 0 where
  pub call : (en : Engine) (k : Counts) (e : Event) (o : Outcome) → Answers ws en k e o → o ≡ step c en k e
  pub calls : (es : List Event) (os : List Outcome) → CallsInTurn ws fresh no_counts es os → os ≡ outcomes c fresh no_counts es
  pub replay : (events : List ℕ) (k : Counts) (out after : List ℕ) → Replays ws events k out after
      → after ≡ replayed (step c) (events_answered events out) events fresh k ++ drop (32 * events_answered events out) out

pub record Demand3 : Type 0 where
  pub has_config : (s d : List ℕ) (n : ℕ) (out : List ℕ) → Converts s d (Ok n) out → (x : Node) → WellShaped s x
      → (c : Config) × Says (known_elements x) c
  pub same_run : (s d : List ℕ) (n : ℕ) (out : List ℕ) → Converts s d (Ok n) out → (x : Node) → WellShaped s x
      → (c : Config) → Says (known_elements x) c → SameRun (take n out) c
  pub some_calls : (ws : List ℕ) (es : List Event) → (os : List Outcome) × CallsInTurn ws fresh no_counts es os
  -- "The loader takes every plan the converter writes."
  pub taken : (s d : List ℕ) (n : ℕ) (out : List ℕ) → Converts s d (Ok n) out → (r : Option Layout) → Loads (take n out) r
      → load_refusal r ≡ none
  -- "In a plan that it takes, expression code never pops from an empty stack, never holds more than 24 values, and ends with one", and
  -- "the loader takes a plan exactly if" it does so
  pub safe_code : (ws : List ℕ) (p : PlanOf ws) → Every (λ t. (v : ℕ → Bool) → Runs v t.code) p.plan.statements
  pub code_exactly : (triggers : ℕ) (code : List ℕ) (v : ℕ → Bool)
      → (sound_code triggers code ≡ true) ↔ (KnownTriggers triggers code × Runs v code)
  -- the counts are those of the history; "their sum is the frames accepted"
  pub counts : (c : Config) (es : List Event)
      → counts_after no_counts (outcomes c fresh no_counts es) ≡ counted_all no_counts (outcomes c fresh no_counts es)
  pub sum : (c : Config) (es : List Event)
      → sum_of (counts_after no_counts (outcomes c fresh no_counts es)) ≡ accepted_frames es (outcomes c fresh no_counts es)
