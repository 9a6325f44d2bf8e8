-- The loops over triggers, which go by index into arrays, give what the rules give.
use Prim.Native.Nat.{ℕ, ◌+◌, ◌≤◌}
use mathlib.Core.Path.{◌≡◌, refl, ap, ◌∙◌}
use mathlib.Core.List.{List, [], ◌∷◌, ◌++◌, map, zip_with}
use mathlib.Core.Bool.{Bool, true, false, ◌||◌, cond}
use native.Mathlib.Omega.{arith}
use lib.ListN.{length, drop, replicate, length-append}
use lib.Seq.{get_or_at, set_at, append_snoc}
use Rattle.records.specs.declared.Trigger.{Trigger}
use Rattle.event_rules.specs.declared.Event.{Event}
use Rattle.event_rules.specs.declared.Firing.{Firing}
use Rattle.event_rules.specs.Rules.{time_of, fires, lasts, states, firings}
use Rattle.engine.specs.TriggersCode.{never, fire_one, fire_all, kept}

module _ (first : Bool) (e : Event) where
  -- which triggers fire
  unfoldable pub hits : List Trigger → List Bool
  hits ts = map (λ t. fires first e t.cause) ts

  one_fired : (t : Trigger) (a : List Firing) (l : Firing) (ls : List Firing)
      (b : List Bool) (h : Bool) (hs : List Bool) (c : List Bool)
      (s : Bool) (ss : List Bool) (i : ℕ)
      → length a ≡ i → length b ≡ i → length c ≡ i
      → fire_one t first e (a ++ (l ∷ ls)) i (record { fires = b ++ (h ∷ hs); states = c ++ (s ∷ ss) })
      ≡ record {
        fires = b ++ (fires first e t.cause ∷ hs);
        states = c
            ++ ((fires first e t.cause || lasts (time_of e) l t.timeout) ∷ ss);
      }
  unfolding fire_one
  one_fired t a l ls b h hs c s ss i ha hb hc = rw (get_or_at a l ls never i ha, set_at b h hs _ i hb, set_at c s ss _ i hc)

  pub all_fired : (ts : List Trigger) (a ls : List Firing) (b hs c ss : List Bool) (i : ℕ) → length a ≡ i → length b ≡ i → length c ≡ i
      → length ts ≤ length ls → length ts ≤ length hs → length ts ≤ length ss
      → fire_all ts first e (a ++ ls) i (record { fires = b ++ hs; states = c ++ ss })
      ≡ record { fires = b ++ (hits ts ++ drop (length ts) hs); states = c ++ (states ts first e ls ++ drop (length ts) ss) }
  unfolding fire_all hits states zip_with
  all_fired [] a ls b hs c ss i ha hb hc hl hh hs' = refl
  all_fired (t ∷ ts) a [] b hs c ss i ha hb hc hl hh hs' = absurd (omega arith)
  all_fired (t ∷ ts) a (l ∷ ls) b [] c ss i ha hb hc hl hh hs' = absurd (omega arith)
  all_fired (t ∷ ts) a (l ∷ ls) b (h ∷ hs) c [] i ha hb hc hl hh hs' = absurd (omega arith)
  all_fired (t ∷ ts) a (l ∷ ls) b (h ∷ hs) c (s ∷ ss) i ha hb hc hl hh hs' =
      rw (one_fired t a l ls b h hs c s ss i ha hb hc)
      (rw (
        ← append_snoc a l ls,
        ← append_snoc b (fires first e t.cause) hs,
        ← append_snoc c
            (fires first e t.cause || lasts (time_of e) l t.timeout) ss,
      )
      (all_fired ts (a ++ (l ∷ [])) ls (b ++ (fires first e t.cause ∷ [])) hs
      (c ++ ((fires first e t.cause || lasts (time_of e) l t.timeout) ∷ [])) ss (i + 1)
      (simp length-append (omega arith)) (simp length-append (omega arith)) (simp length-append (omega arith)) (omega arith) (omega arith)
      (omega arith)
      ∙ rw (
        append_snoc b (fires first e t.cause) (map _ ts ++ drop (length ts) hs),
        append_snoc c
            (fires first e t.cause || lasts (time_of e) l t.timeout) (zip_with _ ts ls ++ drop (length ts) ss),
      ) refl))

  none_kept : (n u : ℕ) (ls : List Firing) → length ls ≡ n → kept (replicate n false) u ls ≡ ls
  unfolding kept zip_with
  none_kept n u [] h = rw (← h) refl
  none_kept n u (l ∷ ls) h = rw (← h) (ap (λ (x : List Firing). l ∷ x) (none_kept (length ls) u ls refl))

  pub all_kept : (ts : List Trigger) (n : ℕ) (ls : List Firing) → length ls ≡ length ts + n
      → kept (hits ts ++ replicate n false) (time_of e) ls ≡ firings ts first e ls
  unfolding kept hits firings zip_with
  all_kept [] n ls h = none_kept n (time_of e) ls (omega arith)
  all_kept (t ∷ ts) n [] h = absurd (omega arith)
  all_kept (t ∷ ts) n (l ∷ ls) h =
      ap (λ (x : List Firing). cond (fires first e t.cause) (record { ever = true; at = time_of e }) l ∷ x) (all_kept ts n ls (omega arith))
