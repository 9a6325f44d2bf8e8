-- `tables::rows::tell_head` meets its contract. A channel that there is not changes no flag.
use borrow.Author.Rules.{rules}
use mathlib.Core.Path.{◌≡◌, sym, ◌∙◌}
use mathlib.Core.Bool.{true}
use native.Mathlib.Omega.{arith}
use lib.ListN.{length}
use lib.Seq.{set_out}
use Rattle.tables.specs.RowsCode.{tell_head}
use Rattle.text.specs.Texts.{bytes, same}
use Rattle.schema.specs.SchemaCode.{names, name_in, attributes, position_of}
use Rattle.tables.proofs.rows.tell_head.Goals as goal

pub returns-then-channel-lt5 : goal.returns-then-channel-lt5
unfolding tell_head names name_in bytes attributes position_of same
returns-then-channel-lt5 c = rw (c.one_more.ensures, c.value-channel.ensures, ← c.kind-kind.ensures, sym c.is_same.ensures ∙ c.if-is_same.true)

pub returns-else-channel-lt5 : goal.returns-else-channel-lt5
unfolding tell_head names name_in bytes attributes position_of same
returns-else-channel-lt5 c = let l : length c.args.h.present ≡ 5 = search rules in
    rw (c.one_more.ensures, ← c.value-channel.ensures, set_out c.args.h.present c.value-channel.result true (omega (arith, l, c.if-channel-lt5.false)), ← c.kind-kind.ensures, sym c.is_same.ensures ∙ c.if-is_same.true)

pub returns-then-is_same-2 : goal.returns-then-is_same-2
unfolding tell_head names name_in bytes attributes position_of same
returns-then-is_same-2 c = rw (c.value-log.ensures, ← c.kind-kind.ensures, sym c.is_same.ensures ∙ c.if-is_same.false, sym c.is_same-2.ensures ∙ c.if-is_same-2.true)

pub returns : goal.returns
unfolding tell_head names name_in bytes
returns c = rw (← c.kind-kind.ensures, sym c.is_same.ensures ∙ c.if-is_same.false, sym c.is_same-2.ensures ∙ c.if-is_same-2.false)
