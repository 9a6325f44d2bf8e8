-- The scanning form that the loader's code follows: records read off the words that start with them. Nobody has to believe it:
-- proofs/Exact ties it to Plan.antt.
use Rattle.std.specs.Prelude.{ℕ, zero, suc, ◌+◌, ◌^◌, List, [], ◌∷◌, Bool, true, ◌&&◌, cond, length, get_or, drop, leb, eqb, Option, None, Some}
use Rattle.std.specs.List.{list_all, starts_with}
use Rattle.code.specs.HeightsCode.{sound_code}
use Rattle.loader.specs.Plan.{Plan}
use Rattle.records.specs.Records.{newest, trigger_words, trigger_in, filter_words, filter_in}
use Rattle.records.specs.RecordsCode.{trigger_at, filter_at, actions_at, code_at, statement_at, trigger_size, filter_size, statement_size}
use Rattle.loader.specs.declared.Layout.{Layout}

-- a record is taken where its words are those of what it says
unfoldable pub trigger_ok : ℕ → List ℕ → Bool
trigger_ok n ws = starts_with eqb ws (trigger_words (trigger_at ws)) && trigger_in n (trigger_at ws)

unfoldable pub filter_ok : ℕ → List ℕ → Bool
filter_ok masks ws = starts_with eqb ws (filter_words (filter_at ws)) && filter_in masks (filter_at ws)

abbrev pub action_ok : ℕ → Bool
action_ok a = leb 1 a && leb a 3

unfoldable pub statement_ok : ℕ → List ℕ → Bool
statement_ok triggers ws =
    leb (get_or ws 0 0) 1000000000 && leb (get_or ws 1 0) 6 && leb 1 (get_or ws 2 0) && leb (get_or ws 2 0) 64
    && list_all action_ok (actions_at ws)
    && sound_code triggers (code_at ws)

-- ---- records in a row: k of them from the head of the words
module _ (size : List ℕ → ℕ) where
  -- what stands behind k records
  unfoldable pub rest_of : ℕ → List ℕ → List ℕ
  rest_of zero ws = ws
  rest_of (suc k) ws = rest_of k (drop (size ws) ws)

  unfoldable pub records_of : {A : Type 0} → (List ℕ → A) → ℕ → List ℕ → List A
  records_of read zero ws = []
  records_of read (suc k) ws = read ws ∷ records_of read k (drop (size ws) ws)

  module _ (ok : List ℕ → Bool) where
    -- a record is whole and in range
    abbrev pub fits : List ℕ → Bool
    fits ws = leb (size ws) (length ws) && ok ws

    unfoldable pub all_fit : ℕ → List ℕ → Bool
    all_fit zero ws = true
    all_fit (suc k) ws = fits ws && all_fit k (drop (size ws) ws)

    -- how many words it has, if it is
    abbrev pub whole_of : List ℕ → Option ℕ
    whole_of ws = cond (fits ws) (Some (size ws)) None

    -- where the k records end, counted from `at`, or that one of them is bad
    unfoldable pub scan_of : ℕ → ℕ → List ℕ → Option ℕ
    scan_of zero at ws = Some at
    scan_of (suc k) at ws = cond (fits ws) (scan_of k (at + size ws) (drop (size ws) ws)) None

-- ---- the whole plan
unfoldable pub header_ok : List ℕ → Bool
header_ok ws =
    eqb (get_or ws 0 0) newest && leb 1 (get_or ws 1 0) && leb (get_or ws 1 0) 5 && leb (get_or ws 2 0) 1
    && leb (get_or ws 3 0) 32 && leb (get_or ws 4 0) 32 && leb (get_or ws 5 0) 16

abbrev pub filters_part : List ℕ → List ℕ
filters_part ws = rest_of trigger_size (get_or ws 3 0) (drop 6 ws)

abbrev pub statements_part : List ℕ → List ℕ
statements_part ws = rest_of filter_size (get_or ws 4 0) (filters_part ws)

unfoldable pub plan_at : List ℕ → Plan
plan_at ws = record {
  channels = get_or ws 1 0;
  log_all = eqb (get_or ws 2 0) 1;
  triggers = records_of trigger_size trigger_at (get_or ws 3 0) (drop 6 ws);
  filters = records_of filter_size filter_at (get_or ws 4 0) (filters_part ws);
  statements = records_of statement_size statement_at (get_or ws 5 0) (statements_part ws);
}

abbrev pub scan_triggers : List ℕ → ℕ → Option ℕ
scan_triggers ws at = scan_of trigger_size (trigger_ok (get_or ws 1 0)) (get_or ws 3 0) at (drop at ws)

abbrev pub scan_filters : List ℕ → ℕ → Option ℕ
scan_filters ws at = scan_of filter_size (filter_ok (2 ^ get_or ws 1 0)) (get_or ws 4 0) at (drop at ws)

abbrev pub scan_statements : List ℕ → ℕ → Option ℕ
scan_statements ws at = scan_of statement_size (statement_ok (get_or ws 3 0)) (get_or ws 5 0) at (drop at ws)

-- the statements end where the words end
abbrev pub ends_at : List ℕ → ℕ → ℕ → Option ℕ → Option Layout
ends_at ws f s None = None
ends_at ws f s (Some e) = cond (eqb e (length ws)) (Some (record { filters = f; statements = s })) None

abbrev pub from_filters : List ℕ → ℕ → Option ℕ → Option Layout
from_filters ws f None = None
from_filters ws f (Some s) = ends_at ws f s (scan_statements ws s)

abbrev pub from_triggers : List ℕ → Option ℕ → Option Layout
from_triggers ws None = None
from_triggers ws (Some f) = from_filters ws f (scan_filters ws f)

unfoldable pub load_of : List ℕ → Option Layout
load_of ws = cond (leb 6 (length ws) && header_ok ws) (from_triggers ws (scan_triggers ws 6)) None
