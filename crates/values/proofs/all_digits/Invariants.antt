-- `values::all_digits` meets its contract. The loop's invariant: from here on, after v, the digits make what all of them make; v stays below 16 ^ i.
use Rattle.std.proofs.Common.{◌≡◌, ◌≤◌, ◌<◌, ◌^◌, length, drop}
use Rattle.values.specs.NumbersCode.{digits_from}
use Rattle.values.proofs.all_digits.Given as goal

abbrev pub invariant-loop-b : goal.invariant-loop-b
invariant-loop-b l = record {
  same : digits_from l.base l.v (drop l.b-index l.text) ≡ digits_from l.base 0 l.text;
  within : l.b-index ≤ length l.text;
  small : l.v < 16 ^ l.b-index;
}
