-- Whether a file meets the rules, as the functions ask for it. Nothing here has to be believed.
use Rattle.std.specs.Prelude.{ℕ, List, Bool, true, false}
use Rattle.converter.specs.Converter.{Meets}

pub data GoodIs (s : List ℕ) : Bool → Type 0 where
  good : (ws : List ℕ) → Meets s ws → GoodIs s true
  bad : ((ws : List ℕ) → Meets s ws → ⊥) → GoodIs s false
