-- `document::enter` meets its contract.
use borrow.Author.Rules.{rules}
use mathlib.Core.Path.{◌≡◌, refl, sym, ◌∙◌}
use native.Mathlib.Omega.{arith}
use lib.ListN.{length, length-set}
use Rattle.schema.specs.SchemaCode.{attribute_count}
use Rattle.document.proofs.Entries.{enters, enters_none, enters_refused, put_head, put_row, row_long}
use Rattle.document.proofs.enter.Goals as goal

pub returns-then-at-gt-MOST : goal.returns-then-at-gt-MOST
returns-then-at-gt-MOST c = enters_none c.args.walk c.args.words.now c.requires.3 _ _ c.in-Ok.is c.if-at-gt-MOST.true

pub returns-in_default : goal.returns-in_default
returns-in_default c = enters_refused c.args.walk c.args.words.now c.requires.3 _ c.in_default.not-Ok

pub bounds-words-at : goal.bounds-words-at
bounds-words-at c = omega (arith, c.requires.0, c.if-at-gt-MOST.false)

pub bounds-words-at-2 : goal.bounds-words-at-2
bounds-words-at-2 c = simp length-set (omega (arith, c.requires.0, c.if-at-gt-MOST.false))

pub bounds-words-at-3 : goal.bounds-words-at-3
bounds-words-at-3 c = simp length-set (omega (arith, c.requires.0, c.if-at-gt-MOST.false))

pub bounds-words-at-then-is_ruled : goal.bounds-words-at-then-is_ruled
bounds-words-at-then-is_ruled c = simp length-set (omega (arith, c.requires.0, c.if-at-gt-MOST.false))

pub bounds-words-at-then-is_ruled-2 : goal.bounds-words-at-then-is_ruled-2
bounds-words-at-then-is_ruled-2 c = simp length-set (omega (arith, c.requires.0, c.if-at-gt-MOST.false))

pub put_values-end-requires : goal.put_values-end-requires
put_values-end-requires c = simp length-set (omega (arith, c.requires.0, c.if-at-gt-MOST.false))

pub shape_of-words-then-is_ruled : goal.shape_of-words-then-is_ruled
shape_of-words-then-is_ruled c = c.put_values-end.ensures.long ∙ simp length-set refl

pub returns-then-is_ruled : goal.returns-then-is_ruled
returns-then-is_ruled c = let l : length c.args.g.values ≡ attribute_count = search rules in
    enters c.args.walk c.args.words.now c.requires.3 _ _ c.in-Ok.is _ _ (row_long c.args.kind c.args.walk.at c.args.number c.args.g l) c.if-at-gt-MOST.false (put_row c.args.words.now c.in-Ok.at c.args.kind c.args.walk.at c.args.number (omega (arith, c.requires.0, c.if-at-gt-MOST.false)) c.args.g (omega (arith, c.requires.0, c.if-at-gt-MOST.false)) (sym c.is_ruled.ensures ∙ c.if-is_ruled.true) _ _ c.put_values-end.ensures)

pub returns : goal.returns
returns c = let l : length c.args.g.values ≡ attribute_count = search rules in
    enters c.args.walk c.args.words.now c.requires.3 _ _ c.in-Ok.is _ _ (row_long c.args.kind c.args.walk.at c.args.number c.args.g l) c.if-at-gt-MOST.false (rw (sym c.is_ruled.ensures ∙ c.if-is_ruled.false) (put_head c.args.words.now c.in-Ok.at c.args.kind c.args.walk.at c.args.number (omega (arith, c.requires.0, c.if-at-gt-MOST.false))))
