-- `first_bytes`: what the reader gave stands at the front, and it is all that the reader had or fills the buffer.
use Rattle.std.proofs.Common.{◌≡◌, ◌≤◌, ◌+◌, ℕ, List, ◌++◌, length, take, IfSome, None, Some, refl, sym, ap, ◌∙◌, subst, take_all, take-take, length-take-le, append-nil, ◌-◌, length-take, length-drop, length-append}
use Rattle.std.specs.declared.option.Option.{Option}
use Rattle.std.specs.Io.KnownBytes.{Consumes, IsAtEnd}
use Rattle.std.proofs.KnownBytes.{Consumes-nil, Consumes-trans}
use Rattle.std.proofs.Math.Seq.{take-append_seam, take-append-add}
use Rattle.std.proofs.lemmas.Slice.{take-put_mid, take-put_mid_below}
use borrow.Rule.Slice.PartMut.{put_mid, mid_of}
use native.Mathlib.Omega.{arith}
use Rattle.reading.proofs.first_bytes.Goals as goal

-- a reader whose bytes are bs and then none gave the first m of all, where bs is no longer
at_end : (a b : Option (List ℕ)) (bs : List ℕ) (m : ℕ) → length bs ≤ m → Consumes a b bs → IsAtEnd b → IfSome a (λ all. bs ≡ take m all)
at_end None b bs m short p end = tt
at_end (Some x) None bs m short p end = absurd p
at_end (Some x) (Some y) bs m short p end = sym (ap (take m) (p ∙ ap (λ l. bs ++ l) end ∙ append-nil bs) ∙ take_all m bs short)

-- m bytes of a reader are its first m
is_full : (a b : Option (List ℕ)) (bs : List ℕ) (m : ℕ) → length bs ≡ m → Consumes a b bs → IfSome a (λ all. bs ≡ take m all)
is_full None b bs m full p = tt
is_full (Some x) None bs m full p = absurd p
is_full (Some x) (Some y) bs m full p = sym (ap (take m) p ∙ ap (λ k. take k (bs ++ y)) (sym full) ∙ take-append_seam bs y)

-- a read behind the first n bytes puts its k bytes there
front : (n m k : ℕ) (xs ys : List ℕ) → n ≤ length xs → k ≤ length ys → take (n + k) (put_mid n m xs ys) ≡ take n xs ++ take k ys
front n m k xs ys fits few =
    sym (take-take (n + k) (n + length ys) (put_mid n m xs ys) (omega arith))
    ∙ ap (take (n + k)) (take-put_mid n m xs ys (n + length ys) refl fits)
    ∙ ap (λ j. take (j + k) (take n xs ++ ys)) (sym (length-take-le n xs fits))
    ∙ take-append-add (take n xs) ys k

-- what was lent to a read is all behind the first n bytes
as_many : (n : ℕ) (xs ys : List ℕ) → length ys ≡ length (mid_of n (length xs - n) xs) → length ys ≡ length xs - n
as_many n xs ys same = same ∙ simp (length-take, length-drop) (omega arith)

-- the front of a list is no longer than it
no_longer : (n : ℕ) (xs : List ℕ) → length (take n xs) ≤ length xs
no_longer n xs = simp length-take (omega arith)

-- what stands behind the first n bytes and the k behind them fits
still_fits : (n m k : ℕ) (xs ys : List ℕ) → n ≤ length xs → k ≤ length ys → n + k ≤ length (put_mid n m xs ys)
still_fits n m k xs ys fits few = simp (length-append, length-take) (omega arith)

pub loop-n-init : goal.loop-n-init
loop-n-init g c = (omega arith, Consumes-nil (g.R.Read.remaining c.args.reader.now))

pub returns-then-k-eq0-clause-bytes : goal.returns-then-k-eq0-clause-bytes
returns-then-k-eq0-clause-bytes g c =
    let read = c.in_ok-k.ensures.bytes in
    let kept = take-put_mid_below c.loop-n.n (length c.loop-n.out - c.loop-n.n) c.loop-n.out c.read.new.buf c.loop-n.n (omega arith) c.loop-n.invariant.0 in
    let none = ap (λ k. take k c.read.new.buf) c.if-k-eq0.true in
    let all = Consumes-trans _ _ _ _ _ c.loop-n.invariant.1 read.0 in
    let lent = as_many c.loop-n.n c.loop-n.out c.read.new.buf c.read.auto.buf in
    let more = c.loop-n-test.true in
    let end = read.1 c.if-k-eq0.true (omega arith) in
    at_end _ _ (take c.loop-n.n (put_mid c.loop-n.n (length c.loop-n.out - c.loop-n.n) c.loop-n.out c.read.new.buf)) _ (no_longer c.loop-n.n _)
    (subst (Consumes _ _) (ap (λ l. take c.loop-n.n c.loop-n.out ++ l) none ∙ append-nil _ ∙ sym kept) all) end

pub loop-n-preserved : goal.loop-n-preserved
loop-n-preserved g c =
    let read = c.in_ok-k.ensures in
    let put = front c.loop-n.n (length c.loop-n.out - c.loop-n.n) c.in_ok-k.k c.loop-n.out c.read.new.buf c.loop-n.invariant.0 read.bound.0 in
    (still_fits c.loop-n.n (length c.loop-n.out - c.loop-n.n) c.in_ok-k.k c.loop-n.out c.read.new.buf c.loop-n.invariant.0 read.bound.0, subst (Consumes _ _) (sym put) (Consumes-trans _ _ _ _ _ c.loop-n.invariant.1 read.bytes.0))

pub returns-clause-bound : goal.returns-clause-bound
returns-clause-bound g c = c.loop-n.invariant.0

pub returns-clause-bytes : goal.returns-clause-bytes
returns-clause-bytes g c =
    let fits = c.loop-n.invariant.0 in
    let full = c.loop-n-test.false in
    is_full _ _ (take c.loop-n.n c.loop-n.out) _ (length-take-le c.loop-n.n c.loop-n.out fits ∙ omega arith) c.loop-n.invariant.1
