-- What a filter and a statement without faults say with the entries behind them: channels, actions and the expression's place.
use Prim.Native.Nat.{ℕ, ◌≤◌}
use native.Mathlib.Omega.{arith}
use mathlib.Core.Path.{◌≡◌, refl, sym, ap, ◌∙◌}
use mathlib.Core.List.{List, [], ◌∷◌, ◌++◌, map, append_assoc, append-nil, nil≢cons, head-eq_of_cons-eq, tail-eq_of_cons-eq}
use mathlib.Core.Bool.{Bool, true, false, cond, ◌&&◌, ◌||◌, or-false}
use lib.Dec.{ltb, eqb}
use borrow.Author.Tests.{lt-ltb, le-ltb, ne_eqb}
use Rattle.text.specs.Texts.{bytes, same}
use Rattle.lists.specs.BitsCode.{with_bit}
use Rattle.lists.proofs.BitLaws.{bit_with, same_bits}
use Rattle.lists.proofs.Cases.{by_cases, le_or_lt}
use Rattle.schema.specs.SchemaCode.{kind_name}
use Rattle.file_rules.specs.Element.{Known, good_of, text_of, channel_of}
use Rattle.file_rules.specs.Reading.{is}
use Rattle.records.specs.Records.{sum_from}
use Rattle.records.proofs.Masks.{sum_bit}
use Rattle.element.specs.ElementCode.{is_kind}
use Rattle.document.specs.EntriesCode.{Entry, entry_of}
use Rattle.document.proofs.Absorbs.{any_append}
use Rattle.document.proofs.Stood.{All}
use Rattle.tables.specs.RowsCode as rows
use Rattle.tables.specs.RowsCode.{folded, front, with_channel, mask_of}
use Rattle.file_rules.specs.Tables.{kept}
use Rattle.tables.proofs.Readings.{low_worth}
use Rattle.tables.proofs.Nested.{Named}
use Rattle.lists.specs.Lists.{any}

-- ---- the entries at the front
module _ (part : List ℕ → Bool) where
  -- the elements ms do not begin with a part
  abbrev pub Ends : List Known → Type 0
  Ends [] = Unit {0}
  Ends (m ∷ ms) = part m.name ≡ false

  pub front_is : (ks ms : List Known) → All Named (ks ++ ms) → All (λ k. part k.name ≡ true) ks → Ends ms
      → front (λ kind. part (kind_name kind)) (map entry_of (ks ++ ms)) ≡ map entry_of ks
  unfolding front
  front_is [] [] n p e = refl
  front_is [] (m ∷ ms) n p e = rw (n.0, e)
  front_is (k ∷ ks) ms n p e = rw (n.0, p.0) (ap (λ l. entry_of k ∷ l) (front_is ks ms n.1 p.1 e))

-- ---- a mask of five channels
any_more : (k c : ℕ) (cs : List ℕ) → c ≤ 4 → ((ltb k 5 && any (eqb k) cs) || eqb k c) ≡ (ltb k 5 && any (eqb k) (cs ++ (c ∷ [])))
unfolding any
any_more k c cs h =
    le_or_lt 5 k (λ g. rw (le-ltb k 5 g, ne_eqb k c (λ e. absurd (omega (arith, g, h, e)))))
    (λ g. rw (lt-ltb k 5 g, any_append (eqb k) cs (c ∷ [])) (ap (λ (t : Bool). any (eqb k) cs || t) (sym (or-false (eqb k c)))))

-- one more channel, of which there may be one already
mask_more : (cs : List ℕ) (c : ℕ) → c ≤ 4 → with_channel (sum_from 5 cs) c ≡ sum_from 5 (cs ++ (c ∷ []))
unfolding with_channel
mask_more cs c h =
    rw (lt-ltb c 5 (omega arith))
    (same_bits (with_bit (sum_from 5 cs) c) (sum_from 5 (cs ++ (c ∷ [])))
    (λ k. bit_with (sum_from 5 cs) c k ∙ (ap (λ (t : Bool). t || eqb k c) (sum_bit 5 k cs)
    ∙ (any_more k c cs h ∙ sym (sum_bit 5 k (cs ++ (c ∷ [])))))))

-- the channels of elements that are all CHANNEL
abbrev masking : ℕ → Entry → ℕ
masking m e = with_channel m e.number

masks_all : (ms : List Known) → All (λ c. is "CHANNEL" c ≡ true) ms → (cs : List ℕ)
    → folded masking (sum_from 5 cs) (map entry_of ms) ≡ sum_from 5 (cs ++ map (λ c. good_of (channel_of c)) ms)
unfolding folded
masks_all [] h cs = ap (sum_from 5) (sym (append-nil cs))
masks_all (m ∷ ms) h cs =
    let c = good_of (channel_of m) in
    let n : (entry_of m).number ≡ c = rw h.0 in
    ap (λ (q : ℕ). folded masking q (map entry_of ms))
    (ap (with_channel (sum_from 5 cs)) n ∙ mask_more cs c (low_worth (text_of m)))
    ∙ (masks_all ms h.1 (cs ++ (c ∷ [])) ∙ ap (sum_from 5) (append_assoc cs (c ∷ []) (map (λ c. good_of (channel_of c)) ms)))

pub mask_is : (ms : List Known) → All (λ c. is "CHANNEL" c ≡ true) ms
    → mask_of (map entry_of ms) ≡ sum_from 5 (map (λ c. good_of (channel_of c)) ms)
unfolding sum_from any
mask_is ms h = masks_all ms h []

-- ---- a statement's EXPRESSION
abbrev reading : ℕ → Entry → ℕ
reading p e = cond (is_kind e.kind "EXPRESSION") e.place p

text_one : (p : ℕ) (c : Known) (b : Bool) → Named c → is "EXPRESSION" c ≡ b → reading p (entry_of c) ≡ cond b c.place p
text_one p c b n t = ap (λ (m : List ℕ). cond (same m (bytes "EXPRESSION")) c.place p) n ∙ ap (λ (x : Bool). cond x c.place p) t

text_stays : (ms : List Known) (p : ℕ) → All Named ms → kept (is "EXPRESSION") ms ≡ [] → folded reading p (map entry_of ms) ≡ p
unfolding folded kept
text_stays [] p n h = refl
text_stays (c ∷ ms) p n h =
    by_cases (is "EXPRESSION" c) (λ t. absurd (nil≢cons (sym (rw t at h))))
    (λ t. ap (λ (q : ℕ). folded reading q (map entry_of ms)) (text_one p c false n.0 t) ∙ text_stays ms p n.1 (rw t at h))

text_from_lem : (ms : List Known) (p : ℕ) (e : Known) → All Named ms → kept (is "EXPRESSION") ms ≡ e ∷ []
    → folded reading p (map entry_of ms) ≡ e.place
unfolding folded kept
text_from_lem [] p e n h = absurd (nil≢cons h)
text_from_lem (c ∷ ms) p e n h =
    by_cases (is "EXPRESSION" c)
    (λ t.
    let g : c ∷ kept (is "EXPRESSION") ms ≡ e ∷ [] = rw t at h in
    ap (λ (q : ℕ). folded reading q (map entry_of ms)) (text_one p c true n.0 t)
    ∙ (text_stays ms c.place n.1 (tail-eq_of_cons-eq g) ∙ ap (λ (y : Known). y.place) (head-eq_of_cons-eq g)))
    (λ t. ap (λ (q : ℕ). folded reading q (map entry_of ms)) (text_one p c false n.0 t) ∙ text_from_lem ms p e n.1 (rw t at h))

pub text_is : (ms : List Known) (e : Known) → All Named ms → kept (is "EXPRESSION") ms ≡ e ∷ [] → rows.text_of (map entry_of ms) ≡ e.place
text_is ms e n h = text_from_lem ms 0 e n h
