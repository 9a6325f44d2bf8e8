-- `loader::scan` meets its contract. The loop's invariant: from where it stands, with the records that are left, the scan gives what it gives from the start with all.
use Prim.Native.Nat.{◌≤◌, ◌-◌}
use mathlib.Core.Path.{◌≡◌}
use lib.ListN.{length, drop}
use Rattle.loader.specs.ScanCode.{scan_of}
use Rattle.loader.proofs.scan.Given as goal

abbrev pub invariant-loop : goal.invariant-loop
invariant-loop g l = (l.at ≤ length l.words)
    × (scan_of g.K.Kind.size (g.K.Kind.ok l.kind) (l.count - l.counter) l.at (drop l.at l.words)
    ≡ scan_of g.K.Kind.size (g.K.Kind.ok l.kind) l.count l.from (drop l.from l.words))
