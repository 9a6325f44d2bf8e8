-- Whether a part of a text is only blanks, and turns of the loops over an element's text.
use Prim.Native.Nat.{ℕ, ◌+◌, ◌-◌, ◌≤◌, ◌<◌}
use native.Mathlib.Omega.{arith}
use mathlib.Core.Path.{◌≡◌, refl, sym, ap, ◌∙◌}
use mathlib.Core.List.{List, [], ◌∷◌, ◌++◌, append_assoc, append-nil}
use mathlib.Core.Bool.{Bool, true, false}
use lib.ListN.{length, get_or, drop, take}
use lib.Seq.{slice}
use Rattle.text.specs.Kinds.{is_blank}
use Rattle.lists.proofs.Cases.{by_cases, le_or_lt}
use Rattle.text.proofs.Spans.{downward, span_more, span_here, span_end, span_low}
use Rattle.walk.specs.declared.Item.{Item}
use Rattle.walk.specs.WalkCode.{past, item_at, walk_items, texting, text_from, stray, LaidDown}
use Rattle.walk.proofs.Bounds.{item_from}
use Rattle.walk.proofs.Turns.{Turn, start, on_text}
use Rattle.shape.proofs.Slices.{slice_none, slice_one, slice_part}
use Rattle.walk.proofs.Buffers.{laid_none, laid_more}

pub stray_pass : (b : ℕ) (s : List ℕ) → is_blank b ≡ true → stray (b ∷ s) ≡ stray s
unfolding stray
stray_pass b s t = rw (t, stray)

pub stray_stop : (b : ℕ) (s : List ℕ) → is_blank b ≡ false → stray (b ∷ s) ≡ true
unfolding stray
stray_stop b s t = rw (t, stray)

module _ (f : List ℕ) (k : ℕ) (h : k ≤ length f) (a : List ℕ) where
  pub stray_blank : (j : ℕ) → k ≤ past is_blank f j → stray (slice j k f ++ a) ≡ stray a
  stray_blank = downward f (λ j. k ≤ past is_blank f j → stray (slice j k f ++ a) ≡ stray a)
      (λ j g l. ap (λ (s : List ℕ). stray (s ++ a)) (slice_none f j k (omega arith)))
      (λ j g r l. le_or_lt k j
      (λ m. ap (λ (s : List ℕ). stray (s ++ a)) (slice_none f j k m))
      (λ m. by_cases (is_blank (get_or f j 0))
      (λ t. ap (λ (s : List ℕ). stray (s ++ a)) (slice_one f j k m h) ∙ stray_pass (get_or f j 0) (slice (j + 1) k f ++ a) t
      ∙ r (rw (span_more is_blank f j g t) at l))
      (λ t. absurd (omega (arith, span_here is_blank f j g t)))))

  pub stray_found : (j : ℕ) → past is_blank f j < k → stray (slice j k f ++ a) ≡ true
  stray_found = downward f (λ j. past is_blank f j < k → stray (slice j k f ++ a) ≡ true)
      (λ j g l. absurd (omega (arith, span_end is_blank f j g)))
      (λ j g r l.
      let m : j < k = omega (arith, span_low is_blank f j) in
      ap (λ (s : List ℕ). stray (s ++ a)) (slice_one f j k m h)
      ∙ by_cases (is_blank (get_or f j 0))
      (λ t. stray_pass (get_or f j 0) (slice (j + 1) k f ++ a) t ∙ r (rw (span_more is_blank f j g t) at l))
      (λ t. stray_stop (get_or f j 0) (slice (j + 1) k f ++ a) t))

-- the loop that looks for stray text
abbrev pub StrayTurn : List ℕ → Bool → ℕ → Type 0
StrayTurn f whole j = Turn (λ n m. stray (walk_items (texting f) f n m)) (length f) j whole

pub stray_start : (f : List ℕ) (o : ℕ) → StrayTurn f (stray (text_from f o)) o
stray_start f o = start (λ n m. stray (walk_items (texting f) f n m)) (length f) o (stray (text_from f o)) refl

module _ (f : List ℕ) (whole : Bool) (j k b : ℕ) (t : StrayTurn f whole j) (h : j < length f) (r : Item.Text k ≡ item_at f j)
    (e : b ≡ past is_blank f j) where
  pub stray_is : b < k → true ≡ whole
  stray_is l =
      (on_text (texting f) f stray j whole t (λ a. true) k h r
      (λ a. stray_found f k (item_from f j (Item.Text k) r).1 a j (omega arith))).same

  pub stray_on : k ≤ b → StrayTurn f whole k
  stray_on l =
      on_text (texting f) f stray j whole t stray k h r
      (λ a. stray_blank f k (item_from f j (Item.Text k) r).1 a j (omega arith))

-- the loop that gathers text: what it has laid down so far, and what is to come
pub record Gathered (f whole d : List ℕ) (j n : ℕ) (e : List ℕ) : Type 0 where
  pub text : List ℕ
  pub laid : LaidDown text d n e
  pub turn : Turn (λ n m. text ++ walk_items (texting f) f n m) (length f) j whole

pub gather_start : (f : List ℕ) (o : ℕ) (d : List ℕ) → Gathered f (text_from f o) d o 0 d
gather_start f o d =
    record { text = []; laid = laid_none d; turn = start (walk_items (texting f) f) (length f) o (text_from f o) refl }

module _ (f whole d : List ℕ) (j n : ℕ) (e : List ℕ) (t : Gathered f whole d j n e) where
  pub gather_text : j < length f → (k r : ℕ) (p : List ℕ) → Item.Text k ≡ item_at f j
      → LaidDown (take (k - j) (drop j f)) (take (length e - n) (drop n e)) r p
      → Gathered f whole d k (n + r) (take n e ++ (p ++ drop (length e - n) (drop n e)))
  gather_text h k r p q x =
      let b = item_from f j (Item.Text k) q in
      let s : take (k - j) (drop j f) ≡ slice j k f = slice_part f j k (omega (arith, b.0)) b.1 in
      record {
        text = t.text ++ slice j k f;
        laid = rw (← s) (laid_more t.text (take (k - j) (drop j f)) d e p n r t.laid x);
        turn =
            on_text (texting f) f (λ a. t.text ++ a) j whole t.turn (λ a. (t.text ++ slice j k f) ++ a) k h q
            (λ a. sym (append_assoc t.text (slice j k f) a));
      }

  pub gather_to : (k : ℕ) → Turn (λ n m. t.text ++ walk_items (texting f) f n m) (length f) k whole → Gathered f whole d k n e
  gather_to k u = record { text = t.text; laid = t.laid; turn = u }

  -- nothing is to come
  pub gather_done : t.text ++ [] ≡ whole → LaidDown whole d n e
  gather_done q = rw (← q, append-nil t.text) t.laid
