-- What the loader's answer tells of the words that it took: the one thing that functions over a taken plan ask for.
use Rattle.std.specs.Prelude.{ℕ, ◌≤◌, ◌^◌, ◌≡◌, List, true, length, get_or, drop}
use Rattle.records.specs.RecordsCode.{trigger_size, filter_size, statement_size}
use Rattle.loader.specs.ScanCode.{all_fit, trigger_ok, filter_ok, statement_ok, filters_part, statements_part}
use Rattle.loader.specs.declared.Layout.{Layout}

pub record Laid (ws : List ℕ) (lay : Layout) : Type 0 where
  pub long : 6 ≤ length ws
  pub few_channels : get_or ws 1 0 ≤ 5
  pub few_triggers : get_or ws 3 0 ≤ 32
  pub few_filters : get_or ws 4 0 ≤ 32
  pub few_statements : get_or ws 5 0 ≤ 16
  pub triggers_fit : all_fit trigger_size (trigger_ok (get_or ws 1 0)) (get_or ws 3 0) (drop 6 ws) ≡ true
  pub filters_in_range : lay.filters ≤ length ws
  pub filters_at : drop lay.filters ws ≡ filters_part ws
  pub filters_fit : all_fit filter_size (filter_ok (2 ^ get_or ws 1 0)) (get_or ws 4 0) (drop lay.filters ws) ≡ true
  pub statements_in_range : lay.statements ≤ length ws
  pub statements_at : drop lay.statements ws ≡ statements_part ws
  pub statements_fit : all_fit statement_size (statement_ok (get_or ws 3 0)) (get_or ws 5 0) (drop lay.statements ws) ≡ true
