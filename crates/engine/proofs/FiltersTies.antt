-- The filters one after the other decide as the first match does.
use mathlib.Core.Path.{◌≡◌, refl, sym, ◌∙◌}
use mathlib.Core.List.{List, [], ◌∷◌, ◌++◌}
use mathlib.Core.Bool.{Bool, true, false, ◌&&◌, ◌||◌, cond, beq}
use Rattle.std.proofs.Common.{Option, None, Some}
use Rattle.records.specs.declared.Effect.{Effect}
use Rattle.event_rules.specs.declared.Frame.{Frame}
use Rattle.event_rules.specs.declared.Event.TheVariants.{Frame as frame}
use Rattle.event_rules.specs.Rules.{MessageFilter, is_pass, matches, filters_on, first_match, decides, passes}
use Rattle.engine.proofs.Hits.{passes_from}

or_else : Option Effect → Option Effect → Option Effect
or_else None b = b
or_else (Some e) b = Some e

first_append : (f : Frame) (xs ys : List MessageFilter) → first_match f (xs ++ ys) ≡ or_else (first_match f xs) (first_match f ys)
unfolding first_match or_else
first_append f [] ys = refl
first_append f (x ∷ xs) ys = go (matches f x) (first_append f xs ys)
  where
    go : (b : Bool) → first_match f (xs ++ ys) ≡ or_else (first_match f xs) (first_match f ys)
        → cond b (Some x.effect) (first_match f (xs ++ ys)) ≡ or_else (cond b (Some x.effect) (first_match f xs)) (first_match f ys)
    go true e = refl
    go false e = e

-- what decides: the first match of the pass filters, a stop filter that was seen to match, the first match of the stop filters,
-- a pass filter that was seen on the channel, those that are left there
settles : Bool → Bool → Option Effect → Option Effect → List MessageFilter → Bool
settles stopped barred (Some e) b passing = is_pass e
settles true barred None b passing = false
settles false barred None (Some e) passing = is_pass e
settles false true None None passing = false
settles false false None None passing = decides None passing

settles_unseen : (a b : Option Effect) (passing : List MessageFilter) → settles false false a b passing ≡ decides (or_else a b) passing
unfolding settles or_else
settles_unseen (Some e) b passing = refl
settles_unseen None (Some e) passing = refl
settles_unseen None None passing = refl

-- a pass filter on the channel counts as one that was seen
settles_barred : (stopped barred : Bool) (a b : Option Effect) (x : MessageFilter) (passing : List MessageFilter)
    → settles stopped true a b passing ≡ settles stopped barred a b (x ∷ passing)
unfolding settles
settles_barred stopped barred (Some e) b x passing = refl
settles_barred true barred None b x passing = refl
settles_barred false barred None (Some e) x passing = refl
settles_barred false true None None x passing = refl
settles_barred false false None None x passing = refl

-- and so does a stop filter that matches
settles_stopped : (stopped like barred : Bool) (a b : Option Effect) (passing : List MessageFilter) (e : Effect) → is_pass e ≡ false
    → settles (stopped || like) barred a b passing ≡ settles stopped barred a (cond like (Some e) b) passing
unfolding settles
settles_stopped stopped like barred (Some d) b passing e h = refl
settles_stopped true like barred None b passing e h = refl
settles_stopped false true barred None b passing e h = sym h
settles_stopped false false barred None b passing e h = refl

module _ (f : Frame) where
  -- one filter: whether it is on the channel, is a pass filter, matches; `next` is what those behind it decide
  settles_one : (x : MessageFilter) (passing stopping : List MessageFilter) (next : Bool → Bool → Bool)
      → ((s b : Bool) → next s b ≡ settles s b (first_match f passing) (first_match f stopping) passing)
      → (s b on pass like : Bool) → is_pass x.effect ≡ pass → matches f x ≡ like
      → cond on (cond pass (cond like true (next s true)) (next (s || like) b)) (next s b)
      ≡ settles s b (first_match f (cond (beq pass true && on) (x ∷ passing) passing))
      (first_match f (cond (beq pass false && on) (x ∷ stopping) stopping)) (cond (beq pass true && on) (x ∷ passing) passing)
  unfolding settles first_match
  settles_one x passing stopping next ih s b false true like ep el = ih s b
  settles_one x passing stopping next ih s b false false like ep el = ih s b
  settles_one x passing stopping next ih s b true true true ep el = rw el (sym ep)
  settles_one x passing stopping next ih s b true true false ep el =
      rw el (ih s true ∙ settles_barred s b (first_match f passing) (first_match f stopping) x passing)
  settles_one x passing stopping next ih s b true false like ep el =
      rw el (ih (s || like) b ∙ settles_stopped s like b (first_match f passing) (first_match f stopping) passing x.effect ep)

  abbrev settled : Bool → Bool → List MessageFilter → Bool
  settled s b xs =
      settles s b (first_match f (filters_on true f.channel xs)) (first_match f (filters_on false f.channel xs))
      (filters_on true f.channel xs)

  from_settled : (xs : List MessageFilter) (s b : Bool) → passes_from s b f xs ≡ settled s b xs
  unfolding passes_from settles first_match filters_on
  from_settled [] true b = refl
  from_settled [] false true = refl
  from_settled [] false false = refl
  from_settled (x ∷ xs) s b =
      settles_one x (filters_on true f.channel xs) (filters_on false f.channel xs) (λ t c. passes_from t c f xs)
      (λ t c. from_settled xs t c)
      s b (x.on f.channel) (is_pass x.effect) (matches f x) refl refl

  pub from_rules : (xs : List MessageFilter) → passes_from false false f xs ≡ passes xs (frame f)
  unfolding passes
  from_rules xs =
      from_settled xs false false
      ∙ settles_unseen (first_match f (filters_on true f.channel xs)) (first_match f (filters_on false f.channel xs))
      (filters_on true f.channel xs)
      ∙ rw (first_append f (filters_on true f.channel xs) (filters_on false f.channel xs))
