-- The names that copies of a path share.
use Rattle.std.specs.Prelude.{ℕ, List, [], Option, Some, None}
use Rattle.std.specs.Arc.{arc_value}
use Rattle.std.specs.declared.sync.Arc.{Arc}

-- The path without names shares nothing.
abbrev pub shared_names : {Z : Type 0} → Option (Arc (List (List ℕ)) Z) → List (List ℕ)
shared_names None = []
shared_names (Some names) = arc_value names
