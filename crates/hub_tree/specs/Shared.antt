-- A map that shares its memory with its copies. An empty one has none.
use Rattle.std.specs.Prelude.{List, [], Option, Some, None}
use Rattle.std.specs.Arc.{arc_value}
use Rattle.std.specs.declared.sync.Arc.{Arc}
use Rattle.std.specs.BTreeMap.{BTreeMap}

abbrev pub shared_entries : {K X Z : Type 0} → Option (Arc (BTreeMap K X) Z) → List (K × X)
shared_entries None = []
shared_entries (Some shared) = (arc_value shared).entries
