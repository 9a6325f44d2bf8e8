-- Elements of some kinds counted in one pass: those counted and those that are left are all.
use Prim.Native.Nat.{ℕ, ◌+◌, ◌≤◌}
use native.Mathlib.Omega.{arith}
use mathlib.Core.Path.{◌≡◌, refl, ap, ◌∙◌}
use mathlib.Core.List.{List, [], ◌∷◌}
use mathlib.Core.Bool.{Bool, true, false}
use mir.Val.{bool_byte}
use lib.ListN.{length}
use Rattle.lists.proofs.Cases.{by_cases}
use Rattle.schema.specs.Schema.{one_of, under}
use Rattle.schema.specs.SchemaCode.{kind_name}
use Rattle.document.specs.EntriesCode.{Entry, entries_in}
use Rattle.tables.specs.RowsCode.{counted}
use Rattle.tables.proofs.RowsTurns.{stands_in, counting}

byte_of : {b : Bool} → (m : ℕ) → m ≡ bool_byte b → (b ≡ true → m ≡ 1) × (b ≡ false → m ≡ 0)
byte_of m e = (λ t. e ∙ rw t refl, λ t. e ∙ rw t refl)

pub counted_more : (q n m : ℕ) {all : ℕ} {es : List Entry} {e : Entry} {rest : List Entry} {b : Bool} {kind : ℕ} → es ≡ e ∷ rest
    → n + counted q es ≡ all → kind ≡ e.kind → b ≡ one_of (under (kind_name q)).carried (kind_name kind) → m ≡ bool_byte b
    → (n + m + counted q rest ≡ all) × (n + m ≤ all)
unfolding counted
counted_more q n m {all} {es} {e} {rest} s c k i v =
    let d = i ∙ ap (λ x. one_of (under (kind_name q)).carried (kind_name x)) k in
    let w = byte_of m v in
    let h = ap (counted q) s in
    by_cases (stands_in q e)
    (λ t. let x = w.0 (d ∙ t) in let y : counted q es ≡ 1 + counted q rest = h ∙ rw t refl in (omega (arith, c, x, y), omega (arith, c, x, y)))
    (λ t. let x = w.1 (d ∙ t) in let y : counted q es ≡ counted q rest = h ∙ rw t refl in (omega (arith, c, x, y), omega (arith, c, x, y)))

pub counted_all : (q n : ℕ) {all : ℕ} {es : List Entry} → es ≡ [] → n + counted q es ≡ all → n ≡ all
unfolding counted
counted_all q n {all} {es} s c = let k : counted q es ≡ 0 = ap (counted q) s in omega (arith, c, k)

-- there are no more than words
pub counted_few : (q : ℕ) (ws : List ℕ) → counted q (entries_in ws) ≤ length ws
counted_few q ws = let c = counting q _ ws refl in omega (arith, c.0, c.1)
