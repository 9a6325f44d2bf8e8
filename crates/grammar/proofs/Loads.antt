-- Whatever is compiled the loader takes, and its value is what the tree says of the triggers by their names.
use Prim.Native.Nat.{ℕ, ◌≤◌, ◌<◌}
use native.Mathlib.Omega.{arith}
use mathlib.Core.Path.{◌≡◌, refl, sym, ap, fun_ext, ◌∙◌}
use mathlib.Core.Bool.{Bool, true, false}
use mathlib.Core.Option.{none}
use Rattle.std.specs.Prelude.{Some}
use mathlib.Core.List.{List, [], ◌∷◌, ◌++◌, map}
use lib.ListN.{length, get_or, length-map}
use Rattle.code.specs.Code.{Op, word_of, limit, run_words, only_value, value_on, Runs}
use Rattle.code.specs.HeightsCode.{sound_code}
use Rattle.code.proofs.Heights.{Below, Pushes, pushes_known, words_run}
use Rattle.code.proofs.Sound.{code_sound, sound_code_lem}
use Rattle.grammar.specs.Tree.{Operator, or, and, Chain, only, join, Operand, chain, name, negate, bracket, Expression, print, mean, code, coded, joiner}
use Rattle.grammar.specs.Outcome.{ReadsAs, Named, number_in, state_of, Becomes, compiles}
use Rattle.grammar.proofs.Machine.{nineteen, few_words}
use Rattle.grammar.proofs.Maps.{code_natural, mean_natural}
use Rattle.grammar.proofs.Names.{NameOf, number_low, state_named, of_names}

pushes_join : (t : ℕ) (s c : List Op) → Pushes t s → Pushes t c → Pushes t (s ++ c)
unfolding Pushes
pushes_join t [] c p q = q
pushes_join t (o ∷ s) c p q = (p.0, pushes_join t s c p.1 q)

pushes_joiner : (t : ℕ) (b : Operator) → Pushes t (joiner b ∷ [])
unfolding Pushes Below
pushes_joiner t or = (tt, tt)
pushes_joiner t and = (tt, tt)

-- where every name's number is one of t, the code pushes only those
module _ {N : Type 0} (num : N → ℕ) (t : ℕ) (low : (w : N) → num w < t) where
  mutual
    unfolding code Pushes Below

    pushes : {b : Operator} (e : Chain N b) → Pushes t (code num e)
    pushes (only x) = pushes_of x
    pushes {b} (join e x) =
        pushes_join t (code num e) (coded num x ++ (joiner b ∷ [])) (pushes e)
        (pushes_join t (coded num x) (joiner b ∷ []) (pushes_of x) (pushes_joiner t b))

    pushes_of : {b : Operator} (x : Operand N b) → Pushes t (coded num x)
    pushes_of (chain e) = pushes e
    pushes_of (name w) = (low w, tt)
    pushes_of (negate x) = pushes_join t (coded num x) _ (pushes_of x) (tt, tt)
    pushes_of (bracket e) = pushes e

-- an expression all of whose words are names, of which there are at most 32
module _ (names : List (List ℕ)) {text : List ℕ} {e : Expression (List ℕ)} (few : length names ≤ 32) (r : ReadsAs text e)
    (n : Named names (print e)) where
  pub pushes_named : Pushes (length names) (code (number_in names) e)
  pushes_named =
      of_names names (λ x. Pushes (length names) (code (number_in names) x))
      (λ x. rw (code_natural (λ (w : NameOf names). w.0) (number_in names) x)
      (pushes (λ (w : NameOf names). number_in names w.0) (length names) (λ w. number_low names w.0 w.1) x)) e n

  its_run : (v : ℕ → Bool)
      → run_words limit v (map word_of (code (number_in names) e)) [] ≡ Some (mean e (λ w. v (number_in names w)) ∷ [])
  its_run v =
      words_run limit (length names) v few (code (number_in names) e) [] pushes_named
      ∙ nineteen (number_in names) e v r.shallow limit (omega arith)

  mean_named : (states : List Bool) → mean e (λ w. get_or states (number_in names w) false) ≡ mean e (λ w. state_of names states w)
  mean_named states =
      of_names names (λ x. mean x (λ w. get_or states (number_in names w) false) ≡ mean x (λ w. state_of names states w))
      (λ x. mean_natural (λ (w : NameOf names). w.0) (λ w. get_or states (number_in names w) false) x
      ∙ ap (λ (v : NameOf names → Bool). mean x v) (fun_ext (λ w. state_named names states w.0 w.1))
      ∙ sym (mean_natural (λ (w : NameOf names). w.0) (λ w. state_of names states w) x)) e n

  pub loads : sound_code (length names) (map word_of (code (number_in names) e)) ≡ true
  loads =
      code_sound (length names) (map word_of (code (number_in names) e))
      (pushes_known (length names) (code (number_in names) e) pushes_named) (λ i. true) (mean e (λ w. true)) (its_run (λ i. true))

  pub runs : (v : ℕ → Bool) → Runs v (map word_of (code (number_in names) e))
  runs = sound_code_lem (length names) (map word_of (code (number_in names) e)) loads

  pub value : (states : List Bool) → value_on states (map word_of (code (number_in names) e)) ≡ Some (mean e (λ w. state_of names states w))
  unfolding value_on
  value states = ap only_value (its_run (λ i. get_or states i false)) ∙ ap Some (mean_named states)

-- What is true of a text that compiles: its words are those of the one tree, 1 to 64, and no more than it has tokens; the loader takes
-- them; their value is what the tree says.
pub record GoodCode (names : List (List ℕ)) (text ws : List ℕ) : Type 0 where
  pub tree : Expression (List ℕ)
  pub reads : ReadsAs text tree
  pub named : Named names (print tree)
  pub words : ws ≡ map word_of (code (number_in names) tree)
  pub some_words : 1 ≤ length ws
  pub few : length ws ≤ 64
  pub loads : sound_code (length names) ws ≡ true
  pub runs : (v : ℕ → Bool) → Runs v ws
  pub value : (states : List Bool) → value_on states ws ≡ Some (mean tree (λ w. state_of names states w))

pub good : {names : List (List ℕ)} {text ws : List ℕ} → length names ≤ 32 → Becomes names text none ws → GoodCode names text ws
good {names} few (compiles e r n) =
    let c = code (number_in names) e in
    let l : length (map word_of c) ≡ length c = length-map c word_of in
    let w = few_words (number_in names) e in
    record {
      tree = e;
      reads = r;
      named = n;
      words = refl;
      some_words = omega arith;
      few = omega (arith, r.short);
      loads = loads names few r n;
      runs = runs names few r n;
      value = value names few r n;
    }
