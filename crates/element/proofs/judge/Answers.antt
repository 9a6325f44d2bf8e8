-- `element::judge` meets its contract.
use Rattle.std.proofs.Common.{sym, ◌∙◌}
use Rattle.element.proofs.Judged.{judge_unknown, known_low, judge_again, judge_fit}
use Rattle.element.proofs.judge.Goals.{in_default-via-in-Some+else-not-has_bit, in_default-via-in_default}
use Rattle.element.proofs.judge.Goals as goal

pub put-requires : goal.put-requires
put-requires c = known_low c.args.kind c.args.g c.args.name.now c.args.text.now _ (sym c.in-Some.is ∙ c.attribute_in.ensures)

pub returns-in-Some : goal.returns-in-Some
returns-in-Some c =
    c.put.ensures ∙ judge_fit c.args.kind _ c.args.name.now c.args.text.now _ (sym c.in-Some.is ∙ c.attribute_in.ensures)
    _ c.has_bit.ensures c.if-not-has_bit.true _ _ c.sort_of.ensures c.worth_of.ensures

pub returns-in_default : goal.returns-in_default
returns-in_default c =
    elim c.in_default.branch [
      | in_default-via-in-Some+else-not-has_bit w ↦
          judge_again c.args.kind _ c.args.name.now c.args.text.now _ (sym w.in-Some.is ∙ c.attribute_in.ensures)
          _ w.has_bit.ensures w.if-not-has_bit.false
      | in_default-via-in_default w ↦
          judge_unknown c.args.kind _ c.args.name.now c.args.text.now (sym w.in_default.is ∙ c.attribute_in.ensures)
    ]
