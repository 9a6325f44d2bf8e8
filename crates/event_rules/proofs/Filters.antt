-- A plan's filter is on the channels whose powers its mask is the sum of.
use Prim.Native.Nat.{ℕ}
use mathlib.Core.Path.{◌≡◌, refl, sym, ◌∙◌}
use mathlib.Core.List.{List, [], ◌∷◌, map}
use mathlib.Core.Bool.{Bool, true, false}
use lib.Dec.{leb, eqb}
use borrow.Author.Tests.{lt-ltb, le-ltb}
use Rattle.lists.specs.Lists.{any}
use Rattle.lists.proofs.Cases.{le_or_lt}
use Rattle.records.specs.declared.Effect.TheVariants.{Pass}
use Rattle.records.specs.declared.Filter.{Filter}
use Rattle.records.specs.Records.{sum_from}
use Rattle.records.proofs.Masks.{sum_bit, not_beyond}
use Rattle.event_rules.specs.Calls.{filter_rule}

pub on_channels : (x : Filter) (cs : List ℕ) → any (leb 5) cs ≡ false → x.mask ≡ sum_from 5 cs → (channel : ℕ)
    → (filter_rule x).on channel ≡ any (eqb channel) cs
on_channels x cs h e channel =
    rw e
    (sum_bit 5 channel cs
    ∙ le_or_lt 5 channel (λ g. rw (le-ltb channel 5 g) (sym (not_beyond 5 channel cs h g))) (λ g. rw (lt-ltb channel 5 g)))

-- which of the channels 0 to 4 a mask is on: 2^2, 2^0 + 2^3, 2^3 + 2^4
abbrev channels_of : ℕ → List Bool
channels_of mask =
    map (filter_rule (record { effect = Pass; mask = mask; ext = false; lower = 0; upper = 0; shortest = 0; longest = 8 })).on
    (0 ∷ 1 ∷ 2 ∷ 3 ∷ 4 ∷ [])

pub mask_check : (channels_of 4 ≡ false ∷ false ∷ true ∷ false ∷ false ∷ [])
    × (channels_of 9 ≡ true ∷ false ∷ false ∷ true ∷ false ∷ [])
    × (channels_of 24 ≡ false ∷ false ∷ false ∷ true ∷ true ∷ [])
mask_check = (refl, refl, refl)
