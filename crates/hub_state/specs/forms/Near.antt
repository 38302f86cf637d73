-- Paths that are read from fields.
use Rattle.std.specs.Prelude.{◌≡◌, List, ℕ, IsTrue, None, Ok}
use Rattle.hub_path.specs.Path.{Path, is_path}
use Rattle.hub_path.specs.Reading.{names_fault}
use Rattle.hub_state.specs.Reading.{path_field}

-- The field reads as this path, whose names have no fault.
abbrev pub IsReadFrom : List ℕ → Path → Type 0
IsReadFrom field p = (path_field field ≡ Ok p) × IsTrue (is_path p) × (names_fault 0 p ≡ None)
