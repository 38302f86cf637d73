-- How a reading sees a folder in a root: by its path there as it stands, or folded.
use Rattle.std.specs.Prelude.{◌≡◌, ◌++◌, ◌&&◌, ℕ, Bool, true, false, List, slice_get, Option, Some, None, IsTrue, if◌then◌else◌}
use Rattle.std.specs.List.{list_all}
use Rattle.hub_path.specs.Path.{Name, Path, is_name}
use Rattle.hub_profile.specs.Parts.{IsProfile, Parts, has_root}
use Rattle.hub_folded.specs.Fold.{fold_name, fold_path, knows}
use Rattle.hub_folded.specs.Table.{unicode}
use Rattle.hub_archives.specs.KeptOut.{keeps_out}

-- It is known what a name folds to, and that is a name; and what it folds to then.
abbrev pub folds_to_name : Name → Bool
folds_to_name n = knows unicode n && is_name (fold_name unicode n)

abbrev pub folded_name : Name → Option Name
folded_name n = if folds_to_name n then Some (fold_name unicode n) else None

-- The same of each name of a path.
abbrev pub folds_to_path : Path → Bool
folds_to_path x = list_all folds_to_name x

abbrev pub folded_path : Path → Option Path
folded_path x = if folds_to_path x then Some (fold_path unicode x) else None

-- A reading keeps out the folded path, if it is known that each name of the path folds to a name.
abbrev pub keeps_out_folded : Parts → Path → Bool
keeps_out_folded C x = folds_to_path x && keeps_out C (fold_path unicode x)

-- A reading keeps out a path, folded or as it stands.
abbrev pub keeps_out_as : Bool → Parts → Path → Bool
keeps_out_as false C x = keeps_out C x
keeps_out_as true C x = keeps_out_folded C x

-- The reading keeps the folder out, if it is this root or lies in it; the same at each root of the
-- reading; and of each of some folders.
abbrev pub KeptOutBelow : Bool → Path → Path → Parts → Type 0
KeptOutBelow folds r folder C = (x : Path) → folder ≡ r ++ x → IsTrue (keeps_out_as folds C x)

abbrev pub KeptOutBy : Bool → Path → Parts → Type 0
KeptOutBy folds folder C = (r : Path) → IsTrue (has_root C r) → KeptOutBelow folds r folder C

abbrev pub KeptOutOf : Bool → List Path → Parts → Type 0
KeptOutOf folds folders C =
    (i : ℕ) (f : Path) → slice_get folders i ≡ Some f → IsProfile C × KeptOutBy folds f C

-- The folder has this path below the root, and the reading doesn't keep it out; the same below a root
-- of the reading; and of one of some folders.
abbrev pub IsHeldBelowAs : Bool → Path → Path → Parts → Path → Type 0
IsHeldBelowAs folds r folder C x = (folder ≡ r ++ x) × (keeps_out_as folds C x ≡ false)

abbrev pub IsHeldAtAs : Bool → Path → Parts → Path → Type 0
IsHeldAtAs folds folder C x = (r : Path) × IsTrue (has_root C r) × IsHeldBelowAs folds r folder C x

abbrev pub IsHeldByAs : Bool → List Path → Parts → ℕ → Path → Type 0
IsHeldByAs folds folders C i x = (f : Path) × (slice_get folders i ≡ Some f) × IsHeldAtAs folds f C x
