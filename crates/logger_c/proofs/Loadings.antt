-- The loader's answer tells whether the words are a plan.
use Prim.Native.Nat.{ℕ}
use mathlib.Core.Path.{◌≡◌, refl, subst}
use mathlib.Core.List.{List}
use Rattle.loader.specs.Plan.{Loads}
use Rattle.loader.specs.ScanCode.{plan_at}
use Rattle.loader.specs.declared.Layout.{Layout}
use Rattle.std.specs.Prelude.{Option, None, Some}
use Rattle.loader.proofs.Exact as exact
use Rattle.logger_c.specs.Calls.{Loading, taken, refused}

module _ {ws : List ℕ} {loaded : Option Layout} (l : Loads ws loaded) where
  pub loading_taken : {lay : Layout} → loaded ≡ Some lay → Loading ws 0
  loading_taken e =
      let t = exact.taken_plan (subst (Loads ws) e l) in
      taken (record { plan = plan_at ws; is_in_range = t.0; words = t.1 })

  pub loading_refused : loaded ≡ None → Loading ws 20
  loading_refused e = refused (exact.no_plan (subst (Loads ws) e l))

-- the number is determined
pub loading_once : {ws : List ℕ} {a b : ℕ} → Loading ws a → Loading ws b → a ≡ b
loading_once (taken p) (taken q) = refl
loading_once (taken p) (refused n) = absurd (n p)
loading_once (refused n) (taken q) = absurd (n q)
loading_once (refused n) (refused m) = refl
