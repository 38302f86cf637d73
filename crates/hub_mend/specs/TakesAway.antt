-- When a profile only takes away from another one.
use Rattle.std.specs.Prelude.{◌≡◌, ⊤, Bool, true, List, [], ◌∷◌, IsTrue}
use Rattle.std.specs.List.{list_any}
use Rattle.hub_path.specs.Path.{Path}
use Rattle.hub_path.specs.declared.side.Side.{Side}
use Rattle.hub_profile.specs.Parts.{Parts, at_side, some_passes}
use Rattle.hub_profile.specs.declared.verb.Verb.{Verb}
use Rattle.hub_reach.specs.Reach.{covers, reach, may_at, write}

-- What stays: the name, the roots, the kept values, `force` and `prefer`.
pub record IsAlike (P Q : Parts) : Type 0 where
  pub name : Q.name ≡ P.name
  pub roots : Q.roots ≡ P.roots
  pub paths : Q.paths ≡ P.paths
  pub force : Q.force ≡ P.force
  pub prefer : Q.prefer ≡ P.prefer

-- Q only takes away from P: that stays, and Q reaches no path, writes no path and makes no change at
-- a path that P doesn't.
pub record TakesAway (P Q : Parts) : Type 0 where
  pub alike : IsAlike P Q
  pub reaches : (p : Path) → IsTrue (reach Q p) → IsTrue (reach P p)
  pub changes : (r p : Path) (verb : Verb) → IsTrue (may_at Q r p verb) → IsTrue (may_at P r p verb)
  pub writes : (r p : Path) → IsTrue (write Q r p) → IsTrue (write P r p)

-- The bars of Q on its roots forbid what those of P do.
pub record BarsHold (P Q : Parts) : Type 0 where
  pub held : (side : Side) (verb : Verb) → some_passes (covers verb) (at_side P.bars side) ≡ true
      → some_passes (covers verb) (at_side Q.bars side) ≡ true

-- What some item of ys passes, some item of xs passes.
abbrev pub HoldsAll : {A : Type 0} → List A → List A → Type 0
HoldsAll {A} xs ys = (test : A → Bool) → list_any test ys ≡ true → list_any test xs ≡ true

-- What is tested of two profiles: Q has the `ignore` lines and the bars on paths of P, no other
-- `ignorenot` lines, and its bars on the roots forbid what those of P do.
pub record HoldsMore (P Q : Parts) : Type 0 where
  pub alike : IsAlike P Q
  pub ignore : HoldsAll Q.ignore P.ignore
  pub ignorenot : HoldsAll P.ignorenot Q.ignorenot
  pub bars : BarsHold P Q
  pub partial : HoldsAll Q.partial P.partial

-- Each of the new profiles only takes away from the old one in its place.
abbrev pub AllTakeAway : List Parts → List Parts → Type 0
AllTakeAway [] [] = ⊤
AllTakeAway (P ∷ Ps) (Q ∷ Qs) = TakesAway P Q × AllTakeAway Ps Qs
AllTakeAway Ps Qs = ⊥
