use Prim.Native.Nat.{ℕ}
use Rattle.std.specs.Prelude.{Ok}
use Rattle.shape.proofs.Elements.{lt_deep, tagged_run, name_low, name_high, child_run}
use Rattle.shape.proofs.Slices.{slice_part}
use Rattle.shape.proofs.Run.{at_end}
use Rattle.shape.proofs.Steps.{handed_on, past_from}
use Rattle.shape.specs.MachineCode.{at}
use Rattle.shape.specs.ReadsCode.{in_text, closing_tag, TagRest, Marks}
use Rattle.shape.specs.declared.Tag.TheVariants.{Open, Empty}
use Rattle.shape.specs.declared.Mark.TheVariants.{Again, Close, Child}
use lib.Seq.{slice}
use mathlib.Core.List.{List}
use mathlib.Core.Path.{sym, ap, ◌∙◌}
use native.Mathlib.Omega.{arith}
use Rattle.xml.proofs.+element.Goals as goal

pub returns-in_err-past : goal.returns-in_err-past
returns-in_err-past t c = rw (handed_on c.from_residual.result c.from_residual.ensures.1) (record { run = λ k q. tagged_run c.args.file.now c.args.from c.name_end-end.result c.requires c.name_end-end.ensures c.in_err-past.ensures k; past = tt })

pub returns-in-Empty : goal.returns-in-Empty
returns-in-Empty t c = let y : TagRest c.args.file.now c.name_end-end.result (Ok (Empty c.in-Empty.past)) = rw c.in-Empty.is at c.in_ok-past.ensures in let l = name_low c.args.file.now c.args.from c.name_end-end.result c.requires c.name_end-end.ensures in record { run = λ k q. tagged_run c.args.file.now c.args.from c.name_end-end.result c.requires c.name_end-end.ensures y k; past = (omega (arith, y.past.0, l), y.past.1) }

pub loop-here-init : goal.loop-here-init
loop-here-init t c = let y : TagRest c.args.file.now c.name_end-end.result (Ok (Open c.in-Open.inner)) = rw c.in-Open.is at c.in_ok-past.ensures in let l = name_low c.args.file.now c.args.from c.name_end-end.result c.requires c.name_end-end.ensures in (omega (arith, y.past.0, l), λ k q. sym (tagged_run c.args.file.now c.args.from c.name_end-end.result c.requires c.name_end-end.ensures y k))

pub returns-in_err-next : goal.returns-in_err-next
returns-in_err-next t c = rw (handed_on c.from_residual-in_err-next.result c.from_residual-in_err-next.ensures.1) (record { run = λ k q. sym (c.loop-here.invariant.1 k q) ∙ c.in_err-next.ensures.run (k, slice c.args.from c.name_end-end.result c.args.file.now); past = tt })

pub loop-here-preserved-in-Again : goal.loop-here-preserved-in-Again
loop-here-preserved-in-Again t c = let y : Marks in_text c.args.file.now c.loop-here.here (Ok (Again c.in-Again.next)) = rw c.in-Again.is at c.in_ok-next.ensures in (omega (arith, y.past.0, c.loop-here.invariant.0), λ k q. sym (y.run (k, slice c.args.from c.name_end-end.result c.args.file.now)) ∙ c.loop-here.invariant.1 k q)

pub slice_bounds-end_tag-count : goal.slice_bounds-end_tag-count
slice_bounds-end_tag-count t c = omega (arith, name_low c.args.file.now c.args.from c.name_end-end.result c.requires c.name_end-end.ensures)

pub slice_bounds-end_tag-start : goal.slice_bounds-end_tag-start
slice_bounds-end_tag-start t c = omega (arith, name_low c.args.file.now c.args.from c.name_end-end.result c.requires c.name_end-end.ensures, name_high c.args.file.now c.args.from c.name_end-end.result c.requires c.name_end-end.ensures)

pub returns-in-Close : goal.returns-in-Close
returns-in-Close t c = let s = c.args.file.now in let e = c.name_end-end.result in let y : Marks in_text s c.loop-here.here (Ok (Close c.in-Close.name)) = rw c.in-Close.is at c.in_ok-next.ensures in let l = name_low s c.args.from e c.requires c.name_end-end.ensures in let p = slice_part s c.args.from e (omega (arith, l)) (name_high s c.args.from e c.requires c.name_end-end.ensures) in record { run = λ k q. sym (c.loop-here.invariant.1 k q) ∙ y.run (k, slice c.args.from e s) ∙ ap (λ (n : List ℕ). at (closing_tag n k) s c.in-Close.name) (sym p) ∙ c.end_tag.ensures.run k; past = past_from s c.args.from c.in-Close.name c.end_tag.result (omega (arith, y.past.0, c.loop-here.invariant.0)) c.end_tag.ensures.past }

pub returns-then-left-eq0 : goal.returns-then-left-eq0
returns-then-left-eq0 t c = let s = c.args.file.now in let y : Marks in_text s c.loop-here.here (Ok (Child c.in-Child.child)) = rw c.in-Child.is at c.in_ok-next.ensures in record { run = λ k q. sym (c.loop-here.invariant.1 k q) ∙ y.run (k, slice c.args.from c.name_end-end.result s) ∙ lt_deep s (k, slice c.args.from c.name_end-end.result s) c.in-Child.child y.past.1 (omega (arith, q, c.if-left-eq0.true)) y.past.2; past = tt }

pub loop-here-preserved : goal.loop-here-preserved
loop-here-preserved t c = let s = c.args.file.now in let y : Marks in_text s c.loop-here.here (Ok (Child c.in-Child.child)) = rw c.in-Child.is at c.in_ok-next.ensures in (omega (arith, y.past.0, c.in_ok-here-in-Child.ensures.past.0, c.loop-here.invariant.0), λ k q. sym (y.run (k, slice c.args.from c.name_end-end.result s) ∙ child_run (k, slice c.args.from c.name_end-end.result s) y.past.1 y.past.2 c.if-left-eq0.false q c.in_ok-here-in-Child.ensures) ∙ c.loop-here.invariant.1 k q)

pub returns-in_err-here-in-Child : goal.returns-in_err-here-in-Child
returns-in_err-here-in-Child t c = let s = c.args.file.now in let y : Marks in_text s c.loop-here.here (Ok (Child c.in-Child.child)) = rw c.in-Child.is at c.in_ok-next.ensures in rw (handed_on c.from_residual-in_err-here-in-Child.result c.from_residual-in_err-here-in-Child.ensures.1) (record { run = λ k q. sym (c.loop-here.invariant.1 k q) ∙ y.run (k, slice c.args.from c.name_end-end.result s) ∙ child_run (k, slice c.args.from c.name_end-end.result s) y.past.1 y.past.2 c.if-left-eq0.false q c.in_err-here-in-Child.ensures; past = tt })

pub returns : goal.returns
returns t c = record { run = λ k q. sym (c.loop-here.invariant.1 k q) ∙ at_end (in_text (k, slice c.args.from c.name_end-end.result c.args.file.now)) c.args.file.now c.loop-here.here c.loop-here-test.false; past = tt }
