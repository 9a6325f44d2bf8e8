-- Where the machine stops is the longest prefix that some well-shaped text starts with: each state can be led to the end, and a dead text
-- stays dead.
use Prim.Native.Nat.{ℕ, suc, ◌+◌, ◌≤◌, ◌<◌}
use native.Mathlib.Omega.{arith}
use native.Mathlib.Numerals.{add-one}
use mathlib.Core.Path.{◌≡◌, refl, sym, ap, ◌∙◌, subst}
use mathlib.Core.List.{List, [], ◌∷◌, ◌++◌}
use lib.ListN.{length, take}
use Rattle.std.specs.Prelude.{Err, IsErrAnd}
use Rattle.std.proofs.lemmas.Result.{err_from_is_err_and}
use Rattle.shape.specs.declared.Stop.{Stop as Stopped}
use Rattle.shape.specs.declared.Unshaped.TheVariants.{Broken}
use Rattle.shape.specs.Shape.{Shape}
use Rattle.text.specs.Texts.{◌▹◌}
use Rattle.text.specs.Kinds.{is_blank, is_start, is_digit, is_name, is_value, is_text, is_decl}
use Rattle.shape.specs.MachineCode.{State, Next, live, dead, step_byte, start, start_lt, decl, DeclPart, mark, mark_x, mark_xm, declared, closing, idle, lt, tag, slash, close, close_gap, comment, Zone, before, inside, after, zone_of, TagState, name, gap, attr, attr_gap, equal, value, valued, ComPart, bang, dash, text, text_dash, text_end, Out, whole, bad, run_from, end}
use Rattle.shape.specs.ReadsCode.{as_shape}
use Rattle.shape.specs.Shape.{Run, Longest, Shaped}
use Rattle.shape.proofs.Going.{go, go_end, go_live, go_dead}
use Rattle.shape.proofs.Run.{run_live, run_dead}
use Rattle.shape.proofs.Complete.{same_go, close_go, complete}
use Rattle.shape.proofs.Sound.{sound, Done}

-- texts that lead from each state to the end
abbrev end_all : List (List ℕ) → List ℕ
end_all [] = []
end_all (n ∷ k) = "</" ▹ n ++ ">" ▹ end_all k

abbrev end_zone : Zone → List ℕ
end_zone before = "<a/>" ▹ []
end_zone (inside n k) = "</" ▹ n ++ ">" ▹ end_all k
end_zone after = []

abbrev end_lt : Zone → List ℕ
end_lt before = "a/>" ▹ []
end_lt (inside n k) = "/" ▹ n ++ ">" ▹ end_all k
end_lt after = "!---->" ▹ []

abbrev end_tag : TagState → List ℕ
end_tag name = "/>" ▹ []
end_tag gap = "/>" ▹ []
end_tag attr = "=\"\"/>" ▹ []
end_tag attr_gap = "=\"\"/>" ▹ []
end_tag equal = "\"\"/>" ▹ []
end_tag value = "\"/>" ▹ []
end_tag valued = "/>" ▹ []

abbrev end_decl : DeclPart → List ℕ
end_decl mark = "xml?>" ▹ []
end_decl mark_x = "ml?>" ▹ []
end_decl mark_xm = "l?>" ▹ []
end_decl declared = "?>" ▹ []
end_decl closing = ">" ▹ []

abbrev end_com : ComPart → List ℕ
end_com bang = "---->" ▹ []
end_com dash = "--->" ▹ []
end_com text = "-->" ▹ []
end_com text_dash = "->" ▹ []
end_com text_end = ">" ▹ []

abbrev finish : State → List ℕ
finish start = "<a/>" ▹ []
finish start_lt = "a/>" ▹ []
finish (decl p) = end_decl p ++ end_zone before
finish (idle z) = end_zone z
finish (lt z) = end_lt z
finish (tag p k n) = end_tag p ++ end_all k
finish (slash k) = ">" ▹ end_all k
finish (close k m) = m ++ ">" ▹ end_all k
finish (close_gap k) = ">" ▹ end_all k
finish (comment p z) = end_com p ++ end_zone z

name_go : (k : List (List ℕ)) (m s : List ℕ) → go (close k m) (m ++ ">" ▹ s) ≡ go (idle (zone_of k)) s
name_go k m s = same_go k m (">" ▹ s) ∙ close_go k Run.none

all_go : (k : List (List ℕ)) → go (idle (zone_of k)) (end_all k) ≡ live (idle after)
unfolding go is_blank is_text is_start
all_go [] = refl
all_go (n ∷ k) = name_go k n (end_all k) ∙ all_go k

zone_go : (z : Zone) → go (idle z) (end_zone z) ≡ live (idle after)
unfolding go is_blank is_text is_start is_name is_digit
zone_go before = refl
zone_go (inside n k) = name_go k n (end_all k) ∙ all_go k
zone_go after = refl

lt_go : (z : Zone) → go (lt z) (end_lt z) ≡ live (idle after)
unfolding go is_blank is_text is_start is_name is_digit
lt_go before = refl
lt_go (inside n k) = name_go k n (end_all k) ∙ all_go k
lt_go after = refl

tag_go : (p : TagState) (k : List (List ℕ)) (n : List ℕ) → go (tag p k n) (end_tag p ++ end_all k) ≡ live (idle after)
unfolding go is_blank is_start is_name is_digit is_value
tag_go name k n = all_go k
tag_go gap k n = all_go k
tag_go attr k n = all_go k
tag_go attr_gap k n = all_go k
tag_go equal k n = all_go k
tag_go value k n = all_go k
tag_go valued k n = all_go k

decl_go : (p : DeclPart) → go (decl p) (end_decl p ++ end_zone before) ≡ live (idle after)
unfolding go is_blank is_start is_name is_digit is_decl
decl_go mark = refl
decl_go mark_x = refl
decl_go mark_xm = refl
decl_go declared = refl
decl_go closing = refl

com_go : (p : ComPart) (z : Zone) → go (comment p z) (end_com p ++ end_zone z) ≡ live (idle after)
unfolding go
com_go bang z = zone_go z
com_go dash z = zone_go z
com_go text z = zone_go z
com_go text_dash z = zone_go z
com_go text_end z = zone_go z

finish_go : (q : State) → go q (finish q) ≡ live (idle after)
unfolding go is_blank is_start is_name is_digit is_text
finish_go start = refl
finish_go start_lt = refl
finish_go (decl p) = decl_go p
finish_go (idle z) = zone_go z
finish_go (lt z) = lt_go z
finish_go (tag p k n) = tag_go p k n
finish_go (slash k) = all_go k
finish_go (close k m) = name_go k m (end_all k) ∙ all_go k
finish_go (close_gap k) = all_go k
finish_go (comment p z) = com_go p z

-- a text behind another
abbrev onto : Next → List ℕ → Next
onto (live q) t = go q t
onto dead t = dead

-- by what a byte does
by_step : {A : Type 0} (n : Next) → ((q : State) → n ≡ live q → A) → (n ≡ dead → A) → A
by_step (live q) f g = f q refl
by_step dead f g = g refl

go_append : (u t : List ℕ) (q : State) → go q (u ++ t) ≡ onto (go q u) t
go_append [] t q = sym (ap (λ (n : Next). onto n t) (go_end q))
go_append (b ∷ u) t q = by_step (step_byte q b)
    (λ q' e. go_live q b (u ++ t) e ∙ go_append u t q' ∙ sym (ap (λ (n : Next). onto n t) (go_live q b u e)))
    (λ e. go_dead q b (u ++ t) e ∙ sym (ap (λ (n : Next). onto n t) (go_dead q b u e)))

-- where the machine stops
record Stop (q : State) (s : List ℕ) (j : ℕ) : Type 0 where
  within : j ≤ length s
  to : State
  led : go q (take j s) ≡ live to
  then : j < length s → go q (take (suc j) s) ≡ dead
  open_end : Done (go q s) → ⊥

abbrev Ends : State → List ℕ → ℕ → Out → Type 0
Ends q s i whole = go q s ≡ live (idle after)
Ends q s i (bad p) = (j : ℕ) × (p ≡ i + j) × Stop q s j

stop_here : (q : State) (i : ℕ) → (Done (live q) → ⊥) → Ends q [] i (bad i)
stop_here q i f = (
  0,
  omega arith,
  record {
    within = omega arith;
    to = q;
    led = go_end q;
    then = λ h. absurd (omega arith);
    open_end = λ d.
        f (subst Done (go_end q) d);
  },
)

stop_end : (q : State) (i : ℕ) → Ends q [] i (end q i)
stop_end start i = stop_here start i (λ x. x)
stop_end start_lt i = stop_here start_lt i (λ x. x)
stop_end (decl p) i = stop_here (decl p) i (λ x. x)
stop_end (idle before) i = stop_here (idle before) i (λ x. x)
stop_end (idle (inside n k)) i = stop_here (idle (inside n k)) i (λ x. x)
stop_end (idle after) i = go_end (idle after)
stop_end (lt z) i = stop_here (lt z) i (λ x. x)
stop_end (tag p k n) i = stop_here (tag p k n) i (λ x. x)
stop_end (slash k) i = stop_here (slash k) i (λ x. x)
stop_end (close k m) i = stop_here (close k m) i (λ x. x)
stop_end (close_gap k) i = stop_here (close_gap k) i (λ x. x)
stop_end (comment p z) i = stop_here (comment p z) i (λ x. x)

stop_more : (q q' : State) (b : ℕ) (s : List ℕ) (i : ℕ) (o : Out) → step_byte q b ≡ live q' → Ends q' s (i + 1) o → Ends q (b ∷ s) i o
stop_more q q' b s i whole e x = go_live q b s e ∙ x
stop_more q q' b s i (bad p) e x = let y = x.2 in (
  suc x.0,
  omega (arith, x.1),
  record {
    within = omega (arith, y.within);
    to = y.to;
    led = go_live q b (take x.0 s) e
        ∙ y.led;
    then = λ h. go_live q b (take (suc x.0) s) e
        ∙ y.then (omega arith);
    open_end = λ d. y.open_end (subst Done (go_live q b s e) d);
  },
)

stop_dead : (q : State) (b : ℕ) (s : List ℕ) (i : ℕ) → step_byte q b ≡ dead → Ends q (b ∷ s) i (bad i)
stop_dead q b s i e = (
  0,
  omega arith,
  record {
    within = omega arith;
    to = q;
    led = go_end q;
    then = λ h. go_dead q b (take 0 s) e;
    open_end = λ d.
        subst Done (go_dead q b s e) d;
  },
)

ends : (s : List ℕ) (q : State) (i : ℕ) → Ends q s i (run_from q s i)
unfolding run_from
ends [] q i = stop_end q i
ends (b ∷ s) q i = by_step (step_byte q b)
    (λ q' e. subst (Ends q (b ∷ s) i) (sym (run_live q b s i e)) (stop_more q q' b s i (run_from q' s (i + 1)) e (ends s q' (i + 1))))
    (λ e. subst (Ends q (b ∷ s) i) (sym (run_dead q b s i e)) (stop_dead q b s i e))

abbrev Live : Next → Type 0
Live (live q) = Unit {0}
Live dead = ⊥

longest_of : (s : List ℕ) (p : ℕ) → Stop start s p → Longest s p
longest_of s p x = record {
  within = x.within;
  viable = (
    finish x.to,
    sound (take p s ++ finish x.to)
        (go_append (take p s) (finish x.to) start ∙ ap (λ (n : Next). onto n (finish x.to)) x.led ∙ finish_go x.to),
  );
  longest = λ h v.
      subst Live
      (sym (complete v.1.1) ∙ go_append (take (p + 1) s) v.0 start
      ∙ ap (λ (n : Next). onto n v.0) (ap (λ (m : ℕ). go start (take m s)) (add-one p) ∙ x.then h)) tt;
}

-- the machine's answer is what the grammar says of the text
answer : (s : List ℕ) → length s ≤ 32768 → (o : Out) → Ends start s 0 o → Shaped s (as_shape o)
answer s l whole x = (l, sound s x)
answer s l (bad p) x = let e : x.0
    ≡ p = omega (arith, x.1) in
    (l, (λ y w. x.2.open_end (subst Done (sym (complete w)) tt), longest_of s p (subst (Stop start s) e x.2)))

-- the same, of an answer that is the machine's
pub by_run : (s : List ℕ) (r : Shape) → length s ≤ 32768 → r ≡ as_shape (run_from start s 0) → Shaped s r
by_run s r l e = subst (Shaped s) (sym e) (answer s l (run_from start s 0) (ends s start 0))

-- the same, where a reader stopped
pub by_stop : (s : List ℕ) (r : Shape) {e : Stopped} → length s ≤ 32768 → run_from start s 0 ≡ bad e.0 → IsErrAnd r (λ y. y ≡ Broken e.0)
    → Shaped s r
by_stop s r l g h = let p = err_from_is_err_and r h in by_run s r l (p.1 ∙ ap Err p.2 ∙ sym (ap as_shape g))
