-- Kept values that lie over one another, and what profiles reach whose kept values don't.
use Rattle.std.proofs.Common.{Bool, ◌||◌, List, IsTrue}
use Rattle.std.specs.List.{list_any}
use Rattle.hub_path.specs.Path.{Path, is_over}
use Rattle.hub_profile.specs.Parts.{Parts}
use Rattle.hub_reach.specs.Reach.{reach}

-- One of the two paths is over the other one.
abbrev pub is_near : Path → Path → Bool
is_near s t = is_over s t || is_over t s

-- The path is over one of these, or one of them is over it.
abbrev pub is_near_one : Path → List Path → Bool
is_near_one s ts = list_any (is_near s) ts

-- One of the first paths is over one of the second ones, or the other way round.
abbrev pub are_near : List Path → List Path → Bool
are_near ss ts = list_any (λ s. is_near_one s ts) ss

-- The one profile doesn't reach p, or the other one doesn't reach q, if p is over q.
abbrev pub ReachApart : Parts → Parts → Path → Path → Type 0
ReachApart P Q p q =
    IsTrue (is_over p q) → IsTrue (reach P p) → IsTrue (reach Q q) → ⊥
