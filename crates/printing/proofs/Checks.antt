-- Paper 01, "Checks by hand", and numbers at both ends, computed.
use mathlib.Core.Path.{◌≡◌, refl}
use mathlib.Core.List.{[], ◌∷◌}
use Rattle.text.specs.Texts.{bytes}
use Rattle.std.specs.Prelude.{Ok, Err}
use Rattle.file_rules.specs.RefusalCode.{refused_at}
use Rattle.printing.specs.Printing.{digits_of, decimal, text_line, refusal_text, plan_text}

pub decimal_least : decimal 0 ≡ bytes "0"
unfolding decimal digits_of bytes
decimal_least = refl

pub decimal_most : decimal 4294967295 ≡ bytes "4294967295"
unfolding decimal digits_of bytes
decimal_most = refl

pub sample_prints : plan_text (Ok 6) (1 ∷ 1 ∷ 0 ∷ 0 ∷ 0 ∷ 0 ∷ [])
    ≡ bytes "channels=1\nlog_all=0\ntriggers=0\nfilters=0\nstatements=0\nwords=6\n"
unfolding plan_text text_line decimal digits_of bytes
sample_prints = refl

pub empty_prints : plan_text (Err (refused_at 2 0)) [] ≡ bytes "refused=2\nplace=0\n"
unfolding plan_text refusal_text text_line decimal digits_of bytes
empty_prints = refl
