-- Reach as it is seen by who goes down a path name by name: what has been seen above a path decides
-- with the path itself.
use Rattle.std.specs.Prelude.{Bool, not, ◌&&◌, ◌||◌, ◌==◌, length, List, ◌≡◌, IsTrue, true}
use Rattle.std.specs.List.{list_any}
use Rattle.hub_path.specs.Path.{Path, path_eq, is_over, parent, prefixes}
use Rattle.hub_profile.specs.Parts.{Parts}
use Rattle.hub_reach.specs.Reach.{is_ignored, reach}

-- The paths above a path, the whole replica left out, the shortest first.
abbrev pub above : Path → List Path
above p = prefixes (parent p)

-- Some kept value stands above the path: the empty one, or a path.
abbrev pub is_inside : Parts → Path → Bool
is_inside P p = list_any (λ s. length s == 0 || list_any (path_eq s) (above p)) P.paths

-- The path is a kept value, or lies below one.
abbrev pub is_kept : Parts → Path → Bool
is_kept P p = list_any (λ s. is_over s p) P.paths

-- A path above it, at or below a kept value, is ignored.
abbrev pub is_cut : Parts → Path → Bool
is_cut P p = list_any (λ q. is_ignored P q && is_kept P q) (above p)

-- A path is reached where nothing above it is cut off, it isn't ignored itself, and it is a kept
-- value or stands below one.
abbrev pub is_walked : Parts → Path → Bool
is_walked P p =
    not (is_cut P p) && (not (is_ignored P p)
    && (is_inside P p || list_any (λ s. path_eq s p) P.paths))

-- The claim holds of a path that lies between a kept value and a path that is reached.
abbrev pub OfPathBetween : Parts → Path → Path → Type 0 → Type 0
OfPathBetween P x y C =
    IsTrue (reach P y) → IsTrue (is_over x y) → list_any (λ s. is_over s x) P.paths ≡ true → C
