-- `element::fields::joined_as` meets its contract.
use Prim.Native.Nat.{ℕ}
use mathlib.Core.Path.{ap, ◌∙◌}
use lib.ListN.{take, length-replicate}
use Rattle.shape.specs.Text.{trimmed}
use Rattle.walk.specs.WalkCode.{text_from}
use Rattle.element.proofs.Texts.{laid_within, laid_count, laid_taken}
use Rattle.element.proofs.fields.joined_as.Goals as goal

pub slice_bounds-joined-end : goal.slice_bounds-joined-end
slice_bounds-joined-end g c = laid_within _ _ _ _ c.gather_from-n.ensures

pub slice_bounds-core_of-end : goal.slice_bounds-core_of-end
slice_bounds-core_of-end g c = laid_count _ _ _ _ c.gather_from-n.ensures

pub returns : goal.returns
returns g c = (c.core_of.result, c.read.ensures, c.core_of.ensures ∙ ap trimmed (laid_taken _ _ _ _ c.gather_from-n.ensures 32768 (length-replicate {A = ℕ} 32768 0) ∙ ap (λ (o : ℕ). take 32768 (text_from c.args.file.now o)) c.inner_start-o.ensures))
