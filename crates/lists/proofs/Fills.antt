-- A list that a loop fills from the front, and lists that go side by side.
use Prim.Native.Nat.{ℕ, zero, suc, ◌+◌, ◌-◌, ◌≤◌, ◌<◌, min}
use mathlib.Core.Path.{◌≡◌, refl, sym, ap, ◌∙◌}
use mathlib.Core.List.{List, [], ◌∷◌, ◌++◌, zip_with, append-nil, append_assoc}
use native.Mathlib.Omega.{arith}
use native.Mathlib.Numerals.{add-one}
use native.Mathlib.Nat.{zero-min, suc-min-suc}
use lib.ListN.{length, get_or, set, take, drop, drop_of_length-le, length-append, length-drop, length-set, length-take, take-append-drop}
use lib.Seq.{take-suc, take_all, take-nil, take_at, take-suc-set, drop-cons, drop-drop, drop_at, drop-set-lt, append_snoc, length-take-le, set_at, get_or_at}
use Rattle.lists.specs.FillsCode.{Filled}

module _ {A : Type 0} where
  -- one element set: what stands before it, and behind it
  pub set_next : (e : List A) (n : ℕ) (x : A) → n < length e → take (n + 1) (set e n x) ≡ take n e ++ (x ∷ [])
  set_next e n x h = ap (λ (k : ℕ). take k (set e n x)) (add-one n) ∙ take-suc-set e n x h

  pub set_behind : (e d : List A) (n : ℕ) (x : A) → drop n e ≡ drop n d → drop (n + 1) (set e n x) ≡ drop (n + 1) d
  set_behind e d n x r = drop-set-lt (n + 1) e n x (omega arith) ∙ sym (drop-drop 1 n e) ∙ ap (drop 1) r ∙ drop-drop 1 n d

  pub filled_none : (d : List A) → Filled [] d d 0
  filled_none d = record { words = refl; rest = refl; long = refl; within = omega arith }

  pub filled_all : {done d e : List A} {n : ℕ} → Filled done d e n → e ≡ done ++ drop n d
  filled_all {done} {d} {e} {n} f = sym (take-append-drop n e) ∙ rw (f.words, f.rest)

  pub filled_take : {done d e : List A} {n : ℕ} → Filled done d e n → Filled (take n e) d e n
  filled_take f = record { words = refl; rest = f.rest; long = f.long; within = f.within }

  pub filled_count : {done d e : List A} {n : ℕ} → Filled done d e n → length done ≡ n
  filled_count {done} {d} {e} {n} f = sym (ap length f.words) ∙ length-take-le n e (omega (arith, f.long, f.within))

  -- one more
  pub filled_one : (done d e : List A) (n m : ℕ) (x : A) → Filled done d e n → n < length d → n + 1 ≡ m
      → Filled (done ++ (x ∷ [])) d (set e n x) m
  filled_one done d e n m x f h q = rw (← q) (record {
    words = set_next e n x (omega (arith, f.long)) ∙ ap (λ (l : List A). l ++ (x ∷ [])) f.words;
    rest = set_behind e d n x f.rest;
    long = length-set e n x ∙ f.long;
    within = omega arith;
  })

  -- more behind what was filled before
  pub filled_then : (more : List A) {done d e f : List A} {n m : ℕ} → Filled done d e n → Filled (take n e ++ more) e f m → n ≤ m
      → Filled (done ++ more) d f m
  filled_then more {done} {d} {e} {f} {n} {m} x y h = record {
    words = y.words ∙ ap (λ (l : List A). l ++ more) x.words;
    rest = y.rest ∙ further;
    long = y.long ∙ x.long;
    within = omega (arith, y.within, x.long);
  }
    where
      further : drop m e ≡ drop m d
      further =
          let q : n + (m - n) ≡ m = omega arith in
          ap (λ (i : ℕ). drop i e) (sym q) ∙ sym (drop-drop (m - n) n e) ∙ ap (drop (m - n)) x.rest ∙ drop-drop (m - n) n d
          ∙ ap (λ (i : ℕ). drop i d) q

  -- n more
  module _ (done d e : List A) (at : ℕ) (f : Filled done d e at) (w p : List A) (n : ℕ) (l : length w ≡ n) (h : at + n ≤ length d)
      (g : p ≡ take at e ++ (w ++ drop (at + n) e)) where
    more_is : p ≡ (done ++ w) ++ drop (at + n) d
    more_is =
        let z : drop (at + n) e ≡ drop (at + n) d = sym (drop-drop n at e) ∙ ap (drop n) f.rest ∙ drop-drop n at d in
        g ∙ rw (f.words, z, ← append_assoc done w (drop (at + n) d))

    more_long : length (done ++ w) ≡ at + n
    more_long = omega (arith, length-append done w, l, ap length f.words, length-take-le at e (omega (arith, f.long, f.within)))

    pub filled_more : Filled (done ++ w) d p (at + n)
    filled_more = record {
      words = ap (take (at + n)) more_is ∙ take_at (done ++ w) (drop (at + n) d) (at + n) more_long;
      rest = ap (drop (at + n)) more_is ∙ drop_at (done ++ w) (drop (at + n) d) (at + n) more_long;
      long = ap length more_is ∙ omega (arith, length-append (done ++ w) (drop (at + n) d), more_long, length-drop (at + n) d);
      within = h;
    }

  -- in what is passed it is `t`, in what is left still `o`
  abbrev pub filled : List A → List A → ℕ → List A
  filled t o i = take i t ++ drop i o

  -- one more of `t`, whichever of the two is longer
  pub fill_one : (d : A) (t o : List A) (i : ℕ) → i < length t → i < length o → set (filled t o i) i (get_or t i d) ≡ filled t o (i + 1)
  fill_one d t o i h k =
      rw (drop-cons o i d k, add-one, take-suc t i d h, append_snoc (take i t) (get_or t i d) (drop (suc i) o))
      (set_at (take i t) (get_or o i d) (drop (suc i) o) (get_or t i d) i (length-take-le i t (omega arith)))

  -- the first n of a list, n being no more than there are
  pub taken : (n : ℕ) (xs : List A) → take (min n (length xs)) xs ≡ take n xs
  taken zero xs = ap (λ (k : ℕ). take k xs) (zero-min (length xs))
  taken (suc n) [] = take-nil (min (suc n) 0)
  taken (suc n) (x ∷ xs) = ap (λ (k : ℕ). take k (x ∷ xs)) (suc-min-suc n (length xs)) ∙ ap (λ l. x ∷ l) (taken n xs)

  module _ (d : A) (t o : List A) (long : length t ≡ length o) where
    module _ (i : ℕ) (h : i < length o) where
      pub fill_read : get_or (filled t o i) i d ≡ get_or o i d
      fill_read = rw (drop-cons o i d h) (get_or_at (take i t) (get_or o i d) (drop (suc i) o) d i (length-take-le i t (omega (arith, long))))

      pub fill_more : (x : A) → x ≡ get_or t i d → set (filled t o i) i x ≡ filled t o (i + 1)
      fill_more x e = rw e (fill_one d t o i (omega (arith, long)) h)

    pub fill_all : (i : ℕ) → length o ≤ i → filled t o i ≡ t
    fill_all i h = rw (take_all i t (omega (arith, long)), drop_of_length-le o h) (append-nil t)

module _ {A B C : Type 0} (f : A → B → C) where
  pub length_zip : (xs : List A) (ys : List B) → length xs ≡ length ys → length (zip_with f xs ys) ≡ length ys
  unfolding zip_with
  length_zip [] [] h = refl
  length_zip [] (y ∷ ys) h = absurd (omega arith)
  length_zip (x ∷ xs) [] h = absurd (omega arith)
  length_zip (x ∷ xs) (y ∷ ys) h = ap suc (length_zip xs ys (omega arith))

  pub zip_at : (xs : List A) (ys : List B) (i : ℕ) (a₀ : A) (b₀ : B) (c₀ : C) → i < length xs → i < length ys
      → get_or (zip_with f xs ys) i c₀ ≡ f (get_or xs i a₀) (get_or ys i b₀)
  unfolding zip_with
  zip_at [] ys i a₀ b₀ c₀ h k = absurd (omega arith)
  zip_at (x ∷ xs) [] i a₀ b₀ c₀ h k = absurd (omega arith)
  zip_at (x ∷ xs) (y ∷ ys) zero a₀ b₀ c₀ h k = refl
  zip_at (x ∷ xs) (y ∷ ys) (suc i) a₀ b₀ c₀ h k = zip_at xs ys i a₀ b₀ c₀ (omega arith) (omega arith)

-- the first n of a list, n being no more than there are
module _ {X : Type 0} (xs : List X) (count n : ℕ) (e : n ≡ length (take count xs)) where
  pub cut_is : take n xs ≡ take count xs
  cut_is = ap (λ (k : ℕ). take k xs) (e ∙ length-take count xs) ∙ taken count xs

  pub cut_there : n ≤ length xs
  cut_there = omega (arith, length-take count xs)

  pub cut_long : length (take n xs) ≡ n
  cut_long = ap length cut_is ∙ sym e
