-- How roots that are spelled in two ways are found: by the first root that folds to each path.
use Rattle.std.specs.Prelude.{◌≡◌, ℕ, ◌+◌, Bool, false, ◌&&◌, List, [], ◌∷◌, slice_get, Option, Some, None, IsTrue, if◌then◌else◌}
use Rattle.hub_path.specs.Path.{Path, is_over, path_eq}
use Rattle.hub_folded.specs.Fold.{Folding, fold_path, knows_path}
use Rattle.indexmap.specs.IndexMap.{IndexMap, get}

-- The root is known, and folds to the path q.
abbrev pub folds_to : Folding → Path → Path → Bool
folds_to F q r = knows_path F r && path_eq (fold_path F r) q

-- The number of the first such root, of roots from number i on.
abbrev pub first_place : Folding → Path → ℕ → List Path → Option ℕ
first_place F q i [] = None
first_place F q i (r ∷ rs) = if folds_to F q r then Some i else first_place F q (i + 1) rs

-- The map has this number for each path that some of the roots fold to, and has no other path.
abbrev pub HasFirstPlaces : {S : Type 0} → Folding → IndexMap Path ℕ S → List Path → Type 0
HasFirstPlaces F places rs = (q : Path) → get path_eq places q ≡ first_place F q 0 rs

-- The first root that folds to the path q, if there is one, is over the root s.
abbrev pub FitsAt : Folding → List Path → Path → Path → Type 0
FitsAt F rs s q =
    (i : ℕ) (r : Path) → first_place F q 0 rs ≡ Some i → slice_get rs i ≡ Some r
    → IsTrue (is_over r s)

-- So it is for each path over p.
abbrev pub Fits : Folding → List Path → Path → Path → Type 0
Fits F rs s p = (q : Path) → IsTrue (is_over q p) → FitsAt F rs s q

-- The root with number i is known. It is over the path p when it is folded, and isn't over the
-- root s.
abbrev pub IsApart : Folding → List Path → Path → Path → ℕ → Type 0
IsApart F rs s p i =
    (r : Path) × (slice_get rs i ≡ Some r) × IsTrue (knows_path F r)
    × IsTrue (is_over (fold_path F r) p) × (is_over r s ≡ false)
