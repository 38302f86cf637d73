-- Specifications at the paths above a path, where those of kind `BelowPath` may be left out.
use Rattle.std.specs.Prelude.{Bool, not, ◌&&◌, ◌||◌, List}
use Rattle.std.specs.List.{list_any}
use Rattle.hub_path.specs.Path.{Path}
use Rattle.hub_glob.specs.Glob.{matches}
use Rattle.hub_glob.specs.Specification.{Specification}
use Rattle.hub_automaton.specs.Spots.{is_below_kind}

-- One of these is a `BelowPath` that matches the path.
abbrev pub any_matches_below : List Specification → Path → Bool
any_matches_below specs p = list_any (λ s. is_below_kind s.kind && matches s p) specs

-- A specification is tried, where the flag says whether each `BelowPath` is.
abbrev pub is_tried : Bool → Specification → Bool
is_tried below s = below || not (is_below_kind s.kind)
