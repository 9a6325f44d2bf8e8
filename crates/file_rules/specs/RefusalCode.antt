-- A refusal as the code hands it on.
use Rattle.std.specs.Prelude.{ℕ}
use Rattle.file_rules.specs.declared.Refusal.{Refusal}
use Rattle.file_rules.specs.declared.Breach.{Breach}
use Rattle.file_rules.specs.declared.Breach.TheVariants.{Long, Shapeless, Rootless, Surplus, Misfit, Misvalued, Uncarried, Lacking}

abbrev pub refused_at : ℕ → ℕ → Refusal
refused_at n p = record { number = n; place = p }

-- the paper's number: a file or its shape; no KVASER; "over a limit or given twice"; "attribute unknown, repeated or lacking"; "bad value or
-- stray text"; "known and not carried"; "required element lacking"
abbrev pub number_of : Breach → ℕ
number_of Long = 1
number_of Shapeless = 2
number_of Rootless = 3
number_of Surplus = 4
number_of Misfit = 5
number_of Misvalued = 6
number_of Uncarried = 7
number_of Lacking = 8

abbrev pub breach_at : Breach → ℕ → Refusal
breach_at b p = refused_at (number_of b) p
