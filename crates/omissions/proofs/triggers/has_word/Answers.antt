-- `omissions::triggers::has_word` meets its contract: the word is the one name, whole.
use native.Mathlib.Omega.{arith}
use mathlib.Core.Path.{◌≡◌, sym, ap, ◌∙◌}
use mathlib.Core.List.{List, [], ◌∷◌}
use Prim.Native.Nat.{ℕ}
use lib.Dec.{eqb}
use lib.ListN.{length, take}
use lib.Seq.{take_all}
use Rattle.std.specs.List.{list_any}
use Rattle.grammar.specs.TokensCode.{spans, names_in, lexed}
use Rattle.omissions.specs.TriggersCode.{zero_in, has_word}
use Rattle.omissions.proofs.triggers.has_word.Goals as goal

whole : (w s : List ℕ) → lexed (w ∷ []) s ≡ lexed (take (length w) w ∷ []) s
whole w s = ap (λ (n : List ℕ). lexed (n ∷ []) s) (sym (take_all (length w) w (omega arith)))

pub returns-in-Some : goal.returns-in-Some
unfolding has_word names_in spans
returns-in-Some c =
    c.has_zero.ensures ∙ ap (list_any (λ t. eqb t 0)) c.as_slice.ensures.0
    ∙ sym (ap zero_in (whole c.args.word.now c.args.text.now ∙ sym c.tokenise.ensures ∙ c.in-Some.is))

pub returns-in-None : goal.returns-in-None
unfolding has_word names_in spans
returns-in-None c = sym (ap zero_in (whole c.args.word.now c.args.text.now ∙ sym c.tokenise.ensures ∙ c.in-None.is))
