-- Which states can be written and read again.
use Rattle.std.specs.Prelude.{◌≡◌, ◌≤◌, ℕ, List, length, sum_by, None, Some, ◌+◌, [], ◌∷◌, is_some, true}
use Rattle.std.specs.FinMap as fin
use Rattle.hub_path.specs.Path.{Path}
use Rattle.hub_path.specs.Reading.{names_fault}
use Rattle.hub_tree.specs.Tree.{Replica, Archive}
use Rattle.hub_tree.specs.declared.contents.Contents.TheVariants as contents
use Rattle.hub_state.specs.declared.TheConstants.{ENTRIES, FILE_BYTES}
use Rattle.hub_state.specs.State.{State, Text, root_text}

-- How many entries a state has.
abbrev pub entry_count : State → ℕ
entry_count S =
    sum_by (λ m. fin.len m) (fin.values S.replicas) + sum_by (λ a. fin.len a)
    (fin.values S.archives)

-- A state within the limits of the reader: its roots and paths have few and short names, there are
-- few entries, and files are short.
pub record IsReadable (S : State) : Type 0 where
  pub roots : (r : Path) (m : Replica) → fin.get S.replicas (root_text r) ≡ Some m
      → names_fault 0 r ≡ None
  pub pairs : (r s : Path) (a : Archive)
      → fin.get S.archives (root_text r ∷ root_text s ∷ []) ≡ Some a
      → (names_fault 0 r ≡ None) × (names_fault 0 s ≡ None)
  pub paths : (t : Text) (m : Replica) (p : Path) → fin.get S.replicas t ≡ Some m
      → is_some (fin.get m p) ≡ true → names_fault 0 p ≡ None
  pub old_paths : (k : List Text) (a : Archive) (p : Path) → fin.get S.archives k ≡ Some a
      → is_some (fin.get a p) ≡ true → names_fault 0 p ≡ None
  pub files : (t : Text) (m : Replica) (p : Path) (bytes : List ℕ) → fin.get S.replicas t ≡ Some m
      → fin.get m p ≡ Some (contents.File bytes) → length bytes ≤ FILE_BYTES
  pub entries : entry_count S ≤ ENTRIES
