-- `document::is_over` meets its contract.
use Prim.Native.Nat.{ℕ}
use mathlib.Core.Path.{◌≡◌, sym, ap, ◌∙◌}
use mathlib.Core.Logic.{◌⊎◌, inl, inr}
use lib.Dec.{leb}
use Rattle.schema.specs.declared.Times.{Times}
use Rattle.schema.specs.declared.Times.TheVariants.{OneTo, UpTo}
use Rattle.document.specs.declared.Seen.{Seen}
use Rattle.document.specs.DocumentCode.{over_by, is_over}
use Rattle.document.proofs.is_over.Goals as goal

pub returns-in-Once : goal.returns-in-Once
unfolding is_over
returns-in-Once c = c.has_bit.ensures ∙ ap (λ t. over_by t c.args.kind c.args.seen) (sym (sym c.times_of-limit.ensures ∙ c.in-Once.is))

-- both bounds are asked alike
bounded : (kind : ℕ) (seen : Seen) {t : Times} {m : ℕ} → (t ≡ OneTo m) ⊎ (t ≡ UpTo m) → leb m seen.count ≡ over_by t kind seen
bounded kind seen (inl e) = ap (λ t. over_by t kind seen) (sym e)
bounded kind seen (inr e) = ap (λ t. over_by t kind seen) (sym e)

pub returns-in-OneTo : goal.returns-in-OneTo
unfolding is_over
returns-in-OneTo c = rw (← c.times_of-limit.ensures) (bounded c.args.kind c.args.seen c.in-OneTo.is)
