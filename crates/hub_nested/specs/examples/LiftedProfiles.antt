-- Worked values of what is said from a root above.
use Rattle.std.specs.Prelude.{⊤, ◌≡◌, ℕ, Bool, true, false, List, [], ◌∷◌, map, codes, refl}
use Rattle.hub_path.specs.Path.{Path, path_of}
use Rattle.hub_path.specs.declared.side.Side.TheVariants.{Left}
use Rattle.hub_glob.specs.Glob.{matches}
use Rattle.hub_glob.specs.Specification.{Specification}
use Rattle.hub_glob.specs.declared.path_spec.Kind.{Kind}
use Rattle.hub_glob.specs.declared.path_spec.Kind.TheVariants as kind
use Rattle.hub_glob.specs.declared.piece.Part.TheVariants.{One}
use Rattle.hub_glob.specs.declared.piece.Piece.TheVariants.{Lit}
use Rattle.hub_profile.specs.Parts.{Parts}
use Rattle.hub_profile.specs.examples.Profiles.{between, hub, s1}
use Rattle.hub_reach.specs.Reach.{reach, write}
use Rattle.hub_nested.specs.Lifted.{lifted_spec, said_from}
use Rattle.hub_nested.specs.Placed.{asides, placed}

-- What these examples compute.
computed : ⊤
unfolding reach matches
computed = tt

-- The lower root, as a path below the upper one.
abbrev home_al : Path
home_al = path_of (codes "home/al")

abbrev spec : Kind → List ℕ → Specification
spec k t = record { kind = k; pattern = map (λ c. One (Lit c)) t }

abbrev paths : List Path
paths =
    home_al ∷ path_of (codes "home/al/a") ∷ path_of (codes "home/al/b/a")
    ∷ path_of (codes "home/al/a/b") ∷ path_of (codes "a") ∷ []

abbrev matched : Specification → List Bool
matched s = map (λ p. matches (lifted_spec home_al s) p) paths

-- `Path a` is the path `home/al/a`
path_a : matched (spec kind.Path (codes "a")) ≡ false ∷ true ∷ false ∷ false ∷ false ∷ []
unfolding computed
path_a = refl

-- `BelowPath a` is that, and what is below
below_path_a : matched (spec kind.BelowPath (codes "a"))
    ≡ false ∷ true ∷ false ∷ true ∷ false ∷ []
unfolding computed
below_path_a = refl

-- `Name a` is all that is called `a`
name_a : matched (spec kind.Name (codes "a")) ≡ false ∷ true ∷ true ∷ false ∷ true ∷ []
unfolding computed
name_a = refl

-- A profile of its whole replica that ignores what is called `al`, said from the hub above.
abbrev al : Parts
al =
    record (between (codes "al") (path_of (codes "srv/hub/home/al")) s1 []) {
      ignore = spec kind.Name (codes "al") ∷ [];
    }

abbrev from_hub : Parts
from_hub = placed Left hub (asides hub).0 (said_from home_al al)

abbrev own_paths : List Path
own_paths = home_al ∷ path_of (codes "home/al/x") ∷ path_of (codes "home/al/al") ∷ []

-- its root isn't ignored, whatever it is called; what is below it is ignored as ever
reached : map (reach from_hub) own_paths ≡ true ∷ true ∷ false ∷ []
unfolding computed
reached = refl

-- and isn't written: the profile only passes through it
written : map (write from_hub hub) own_paths ≡ false ∷ true ∷ false ∷ []
unfolding computed
written = refl

-- what is beside it isn't reached
beside : map (reach from_hub) (path_of (codes "home") ∷ path_of (codes "home/x") ∷ [])
    ≡ false ∷ false ∷ []
unfolding computed
beside = refl

-- The other root is one that is nested with neither.
other_root : (asides hub).0 ∷ (asides (path_of (codes "0/x"))).0 ∷ []
    ≡ path_of (codes "0") ∷ path_of (codes "1") ∷ []
other_root = refl
