use Rattle.std.proofs.Common.{rules}
use mathlib.Core.Path.{◌∙◌}
use Rattle.text.proofs.Spans.{wider_of}
use Rattle.text.proofs.Chains.{blank_text}
use Rattle.text.specs.Kinds.{is_blank, is_text}
use Rattle.text.proofs.runs.text_end.Goals as goal

pub returns : goal.returns
returns c = c.run_end.ensures is_text (search rules) ∙ wider_of is_blank c.args.s.now c.args.i _ c.blanks_end.ensures is_text blank_text
