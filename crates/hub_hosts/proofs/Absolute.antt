-- What stands in place of a root is absolute.
use Rattle.std.proofs.Common.{◌≡◌, ◌∙◌, ℕ, Bool, true, false, cond, List, [], ◌∷◌, ◌++◌, Option, Some, None, Ok, refl, ap, subst}
use Rattle.std.specs.Prelude.{⊤}
use Rattle.std.specs.Option.{option_map}
use Rattle.hub_text.specs.laws.List.{some-item}
use Rattle.hub_hosts.specs.Drives.{below_of, is_top, text_of}
use Rattle.hub_hosts.specs.Remotes.{base_for, folder_path, is_local_drive, local, local_drive, local_of, path_below, path_of, path_of_local, remote_for}
use Rattle.hub_hosts.specs.Table.{Row, rows_of, slash}
use Rattle.hub_hosts.specs.Words.{begins_with}
use Rattle.hub_hosts.specs.declared.drive.Below.{Below}
use Rattle.hub_hosts.specs.declared.remote.Remote.{Remote}
use Rattle.hub_hosts.proofs.TableLines.{HavePaths, IfBase, IsBase, base_for-base, rows_of-paths}

abbrev IsAbsolute : List ℕ → Type 0
IsAbsolute path = begins_with slash path ≡ true

abbrev IfAbsolute : Option (List ℕ) → Type 0
IfAbsolute None = ⊤
IfAbsolute (Some path) = IsAbsolute path

folder_path-absolute : (base : List ℕ) → IsBase base → IsAbsolute (folder_path base)
folder_path-absolute [] h = refl
folder_path-absolute (b ∷ bs) h = ap (λ t. begins_with slash (cond t slash (b ∷ bs))) (some-item b bs) ∙ h.1

slash-absolute : (base below : List ℕ) → IsBase base → IsAbsolute (base ++ slash ++ below)
slash-absolute [] below h = refl
slash-absolute (b ∷ bs) below h = h.1

path_below-absolute : (base : List ℕ) (below : Below (List ℕ)) → IsBase base → IsAbsolute (path_below base below)
path_below-absolute base below h = by (is_top below)
  where
    by : (b : Bool) → IsAbsolute (cond b (folder_path base) (base ++ slash ++ text_of below))
    by true = folder_path-absolute base h
    by false = slash-absolute base (text_of below) h

local_drive-absolute : (root : List ℕ) → IfAbsolute (option_map path_of_local (local_drive root))
local_drive-absolute root = by (is_local_drive root)
  where
    by : (b : Bool) → IfAbsolute (option_map path_of_local (cond b (Some (local [] (below_of root))) None))
    by true = path_below-absolute [] (below_of root) (refl, refl)
    by false = tt

local_of-absolute : (rows : List Row) (root : List ℕ) (o : Option (Remote (List ℕ))) → HavePaths rows
    → IfAbsolute (option_map path_of_local (local_of rows root o))
local_of-absolute rows root None h = local_drive-absolute root
local_of-absolute rows root (Some r) h = at (base_for rows r) (base_for-base rows r h)
  where
    at : (o : Option (List ℕ)) → IfBase o → IfAbsolute (option_map path_of_local (option_map (λ base. local base r.below) o))
    at None f = tt
    at (Some base) f = path_below-absolute base r.below f

pub path_of-absolute : (table root path : List ℕ) (machine : Option (List ℕ)) (rows : List Row) → rows_of table ≡ Ok rows
    → path_of rows machine root ≡ Some path → begins_with slash path ≡ true
path_of-absolute table root path machine rows e f =
    subst IfAbsolute f (local_of-absolute rows root (remote_for machine root) (rows_of-paths table rows e))
