-- States: replicas by root and archives by unordered pair of roots, in the order of the roots'
-- texts.
use Rattle.std.specs.Prelude.{◌≡◌, ℕ, Bool, true, false, ◌&&◌, ◌||◌, List, [], ◌∷◌, Option, Some, IsTrue, if◌then◌else◌}
use Rattle.std.specs.FinMap as fin
use Rattle.std.specs.Str.{encode_utf8_all}
use Rattle.std.specs.declared.cmp.Ordering.{Ordering}
use Rattle.std.specs.declared.cmp.Ordering.TheVariants.{Less, Equal, Greater}
use Rattle.hub_path.specs.Path.{Path, name_cmp, path_cmp, path_eq, text_of, is_place}
use Rattle.hub_tree.specs.Tree.{Replica, Archive, IsTree, IsArchive, HasPaths, HasBytes, HasDigests}

-- The characters of a root's text.
abbrev pub root_chars : Path → List ℕ
root_chars r = 47 ∷ text_of r

-- The text of a root, in UTF-8.
abbrev pub Text : Type 0
Text = List ℕ

abbrev pub root_text : Path → Text
root_text r = encode_utf8_all (root_chars r)

abbrev pub is_before : Ordering → Bool
is_before Less = true
is_before Equal = false
is_before Greater = false

-- Two texts, the smaller one first.
abbrev pub in_order : Text → Text → List Text
in_order t u = if is_before (name_cmp t u) then t ∷ u ∷ [] else u ∷ t ∷ []

-- The pair of two roots in either order: their texts, the smaller one first.
abbrev pub pair_of : Path → Path → List Text
pair_of r s = in_order (root_text r) (root_text s)

-- Whether p and q are the roots r and s, in either order.
abbrev pub is_pair : Path → Path → Path → Path → Bool
is_pair r s p q = (path_eq p r && path_eq q s) || (path_eq p s && path_eq q r)

-- Replicas and archives under the texts of their roots: so both stand in the order of the texts.
pub record State : Type 0 where
  pub replicas : fin.FinMap name_cmp Replica
  pub archives : fin.FinMap path_cmp Archive

abbrev pub empty_state : State
empty_state = record { replicas = fin.empty; archives = fin.empty }

abbrev pub replica_at : State → Path → Option Replica
replica_at S r = fin.get S.replicas (root_text r)

-- An archive that isn't there has no marks.
abbrev pub archive_at : State → Path → Path → Option Archive
archive_at S r s = fin.get S.archives (pair_of r s)

abbrev pub with_replica : State → Path → Replica → State
with_replica S r m = record S { replicas = fin.insert S.replicas (root_text r) m }

abbrev pub with_archive : State → Path → Path → Archive → State
with_archive S r s a = record S { archives = fin.insert S.archives (pair_of r s) a }

-- What holds of each state: its keys are texts of roots, of two different ones for an archive; its
-- values are replicas and archives.
pub record IsState (S : State) : Type 0 where
  pub roots : (t : Text) (m : Replica) → fin.get S.replicas t ≡ Some m
      → (r : Path) × IsTrue (is_place r) × (t ≡ root_text r)
  pub trees : (t : Text) (m : Replica) → fin.get S.replicas t ≡ Some m
      → IsTree m × HasPaths m × HasBytes m
  pub pairs : (k : List Text) (a : Archive) → fin.get S.archives k ≡ Some a
      → (r s : Path) × IsTrue (is_place r) × IsTrue (is_place s)
      × (k ≡ root_text r ∷ root_text s ∷ [])
      × IsTrue (is_before (name_cmp (root_text r) (root_text s)))
  pub marks : (k : List Text) (a : Archive) → fin.get S.archives k ≡ Some a
      → IsArchive a × HasPaths a × HasDigests a

-- Both states have the same replica at each root, and the same archive at each pair of roots.
abbrev pub HaveSameReplicas : State → State → Type 0
HaveSameReplicas S T = (r : Path) → IsTrue (is_place r) → replica_at S r ≡ replica_at T r

abbrev pub HaveSameArchives : State → State → Type 0
HaveSameArchives S T =
    (r s : Path) → IsTrue (is_place r) → IsTrue (is_place s) → archive_at S r s ≡ archive_at T r s

-- An archive that is put at the roots r and s is there, in either order, and no other pair's changes.
abbrev pub IsPut : State → Path → Path → Archive → Path → Path → Type 0
IsPut S r s a p q =
    archive_at (with_archive S r s a) p q ≡ (if is_pair r s p q then Some a else archive_at S p q)

-- A replica that is put at a root is there, and no other root's changes.
abbrev pub IsReplicaPut : State → Path → Replica → Path → Type 0
IsReplicaPut S r m q =
    replica_at (with_replica S r m) q ≡ (if path_eq q r then Some m else replica_at S q)

-- The claim holds if both paths are places.
abbrev pub IfPlaces : Path → Path → Type 0 → Type 0
IfPlaces r s C = IsTrue (is_place r) → IsTrue (is_place s) → C
