-- `document::index_whole` meets its contract.
use mathlib.Core.Path.{refl, subst}
use native.Mathlib.Omega.{arith}
use Rattle.walk.proofs.WalkLaws.{root_law}
use Rattle.std.specs.Prelude.{Err}
use Rattle.document.specs.DocumentCode.{Holds}
use Rattle.document.proofs.Entries.{sound_none}
use Rattle.document.proofs.Turns.{whole_known, whole_other}
use Rattle.document.proofs.index_whole.Goals as goal

pub visit-all-requires : goal.visit-all-requires
visit-all-requires c = let r = root_law c.args.file.now _ c.requires.0.1.1 in (record { room = c.requires.1; short = c.requires.0.0; shallow = omega arith; node = c.requires.0.1.0; end = r.0; stands = rw (c.none_found.ensures.1, c.root_at-root.ensures) r.1; sound = sound_none _ _ c.none_found.ensures.2 }, rw c.none_found.ensures.1 c.child_at-name.ensures.1)

pub returns-then-is_carried : goal.returns-then-is_carried
returns-then-is_carried c = subst (Holds _ _) (whole_known c.args.file.now _ _ _ c.root_at-root.ensures c.child_at-name.ensures.0 c.is_carried.ensures c.if-is_carried.true _ _ _ (c.none_found.ensures.0 _) _ c.none_found.ensures.1 c.visit-all.ensures.walks refl) (c.settle.ensures _ c.visit-all.ensures.sound)

pub returns : goal.returns
returns c = subst (Holds (Err c.refusal.result) c.args.words.now) (whole_other c.args.file.now _ _ _ c.root_at-root.ensures c.child_at-name.ensures.0 c.is_carried.ensures c.if-is_carried.false _ refl) c.refusal.ensures
