-- The maps from texts that hold a state.
use Rattle.std.specs.Prelude.{◌≡◌, ℕ, Option, List, [], ◌∷◌, ◌++◌, map, String, string_bytes}
use Rattle.std.specs.FinMap as fin
use Rattle.std.specs.List.{flat_map}
use Rattle.std.specs.BTreeMap.{BTreeMap}
use Rattle.hub_path.specs.Path.{name_cmp, path_cmp}
use Rattle.hub_tree.specs.Tree.{Replica, Archive}
use Rattle.hub_state.specs.State.{State, Text}
use Rattle.hub_state.specs.Writing.{replica_files}

-- Entries by the bytes of their keys, with what f has of their values.
abbrev pub keyed : {Z X Y : Type 0} → (X → Y) → List (String Z × X) → List (Text × Y)
keyed f es = map (λ e. (string_bytes e.0, f e.1)) es

abbrev pub by_text : {Z X : Type 0} → List (String Z × X) → List (Text × X)
by_text es = keyed (λ x. x) es

abbrev pub by_two : {Z X : Type 0} → List (String Z × BTreeMap (String Z) X)
    → List (Text × List (Text × X))
by_two es = keyed (λ m. by_text m.entries) es

-- The entries below one text, and those below each text in order, by two texts.
abbrev pub pairs_below : {X : Type 0} → Text → List (Text × X) → List (List Text × X)
pairs_below t es = map (λ e. (t ∷ e.0 ∷ [], e.1)) es

-- The same of the entries of a map from texts.
abbrev pub pairs_at : {Z X : Type 0} → Text → List (String Z × X) → List (List Text × X)
pairs_at t es = pairs_below t (by_text es)

abbrev pub pairs : {X : Type 0} → List (Text × List (Text × X)) → List (List Text × X)
pairs [] = []
pairs (e ∷ es) = pairs_below e.0 e.1 ++ pairs es

abbrev pub map_in : {Z X : Type 0} → List (String Z × X) → fin.FinMap name_cmp X
map_in es = fin.from_entries (by_text es)

abbrev pub pairs_in : {Z X : Type 0} → List (String Z × BTreeMap (String Z) X)
    → fin.FinMap path_cmp X
pairs_in es = fin.from_entries (pairs (by_two es))

-- The value under two texts.
abbrev pub pair_in : {Z X : Type 0} → List (String Z × BTreeMap (String Z) X) → Text → Text
    → Option X
pair_in es t u = fin.get (pairs_in es) (t ∷ u ∷ [])

-- A value is put under a text, and under two.
abbrev pub Puts : {Z X : Type 0} → List (String Z × X) → List (String Z × X) → String Z → X
    → Type 0
Puts old new text x = map_in new ≡ fin.insert (map_in old) (string_bytes text) x

abbrev pub PutsPair : {Z X : Type 0} → List (String Z × BTreeMap (String Z) X)
    → List (String Z × BTreeMap (String Z) X) → Text → Text → X → Type 0
PutsPair old new t u x = pairs_in new ≡ fin.insert (pairs_in old) (t ∷ u ∷ []) x

-- The files of the replicas under these texts.
abbrev pub files_in : {Z : Type 0} → List (String Z × Replica) → List (List ℕ)
files_in es = flat_map replica_files (by_text es)

abbrev pub state_in : {Z : Type 0} → List (String Z × Replica)
    → List (String Z × BTreeMap (String Z) Archive) → State
state_in rs ks = record { replicas = map_in rs; archives = pairs_in ks }
