-- `spelt_at`: a byte as the definition spells it.
use Rattle.std.proofs.Common.{◌≡◌, ℕ, ◌+◌, ◌∙◌, sym, ap, List, ◌∷◌, drop}
use native.Mathlib.Omega.{arith}
use Rattle.reading.specs.Spelling.{letter, spelt}
use Rattle.reading.proofs.Spelling.{plain_at, letter_at, hex_at, letter_same}
use Rattle.reading.proofs.spelt_at.Goals.{in-110, in-114, in-116, in_default}
use Rattle.reading.proofs.spelt_at.Goals as goal

pub returns-then-b-ne92 : goal.returns-then-b-ne92
returns-then-b-ne92 c = record { byte = plain_at c.args.text.now c.args.i c.requires c.if-b-ne92.true }

pub returns-in-120 : goal.returns-in-120
returns-in-120 c =
    let two : c.args.i + 1 + 1 ≡ c.args.i + 2 = omega arith in
    let three : c.args.i + 2 + 1 ≡ c.args.i + 3 = omega arith in
    let four : c.args.i + 3 + 1 ≡ c.args.i + 4 = omega arith in
    let high = c.digit_of-high.ensures in
    let low = c.digit_of-low.ensures in
    let x = rw (two, three, four) at (hex_at c.args.text.now c.args.i c.requires c.if-b-ne92.false (sym c.byte_at.ensures ∙ c.in-120.is)) in
    record { byte = rw (high, low, c.byte_at-in-120.ensures, c.byte_at-in-120-2.ensures) x }

pub returns : goal.returns
returns c =
    let two : c.args.i + 1 + 1 ≡ c.args.i + 2 = omega arith in
    let rest : List ℕ = spelt (drop (c.args.i + 2) c.args.text.now) in
    let x : (c.byte_at.result ≡ 120 → ⊥) → spelt (drop c.args.i c.args.text.now) ≡ letter c.byte_at.result ∷ rest = λ n. rw (c.byte_at.ensures, ← two) (letter_at c.args.text.now c.args.i c.requires c.if-b-ne92.false (λ q. n (c.byte_at.ensures ∙ q))) in
    let same : letter c.byte_at.result ≡ c.match-byte_at.byte → spelt (drop c.args.i c.args.text.now) ≡ letter c.byte_at.result ∷ rest → spelt (drop c.args.i c.args.text.now) ≡ c.match-byte_at.byte ∷ rest = λ e y. y ∙ ap (λ (n : ℕ). n ∷ rest) e in
    record {
      byte = elim c.match-byte_at.branch [
        | in-110 w ↦ same (ap letter w.in-110.is ∙ sym w.byte-is) (x (λ q. omega (arith, q, w.in-110.is)))
        | in-114 w ↦ same (ap letter w.in-114.is ∙ sym w.byte-is) (x (λ q. omega (arith, q, w.in-114.is)))
        | in-116 w ↦ same (ap letter w.in-116.is ∙ sym w.byte-is) (x (λ q. omega (arith, q, w.in-116.is)))
        | in_default w ↦ same (letter_same _ (λ q. omega arith) (λ q. omega arith) (λ q. omega arith) ∙ sym w.byte-is) (x (λ q. omega arith))
      ];
    }
