-- `omissions::triggers::has_text` meets its contract: the text is joined in the buffer and cut at its end.
use Prim.Native.Nat.{ℕ}
use mathlib.Core.Path.{◌∙◌}
use lib.ListN.{length-replicate}
use Rattle.element.proofs.Texts.{laid_within, laid_count, laid_taken}
use Rattle.omissions.proofs.triggers.has_text.Goals as goal

pub slice_bounds-text-end : goal.slice_bounds-text-end
slice_bounds-text-end c = laid_within _ _ _ _ c.gather_text-n.ensures

pub slice_bounds-has_inside-end : goal.slice_bounds-has_inside-end
slice_bounds-has_inside-end c = laid_count _ _ _ _ c.gather_text-n.ensures

pub returns : goal.returns
returns c = c.has_inside.ensures ∙ rw (laid_taken _ _ _ _ c.gather_text-n.ensures 32768 (length-replicate {A = ℕ} 32768 0))
