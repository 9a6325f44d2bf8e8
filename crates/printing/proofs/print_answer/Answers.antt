-- `printing::print_answer` meets its contract: the answer of `convert`, told.
use Rattle.printing.proofs.Puts.{told_plan, told_words, told_refusal}
use Rattle.printing.proofs.print_answer.Goals as goal

pub returns-in-Plan : goal.returns-in-Plan
returns-in-Plan c = told_plan c.convert.ensures c.in-Ok.is c.in-Plan.is c.put_summary.ensures

pub returns-in-Words : goal.returns-in-Words
returns-in-Words c = told_words c.convert.ensures c.in-Ok.is c.in-Words.is c.put_lines.ensures

pub returns-in-Err : goal.returns-in-Err
returns-in-Err c = told_refusal c.args.form c.convert.ensures c.in-Err.is c.put_refusal.ensures
