-- The value of a line, whatever the line sets.
use Rattle.std.specs.Prelude.{ℕ, List, Option, None, if◌then◌else◌}
use Rattle.hub_glob.specs.Specification.{Specification}
use Rattle.hub_profile.specs.Lines.{has_equals, name_and_value}
use Rattle.hub_unison.specs.Lines.{spelled}

-- The specification that it spells, if the line has one.
abbrev pub value_spelled : List ℕ → Option Specification
value_spelled l = if has_equals l then spelled (name_and_value l).1 else None
