-- Lines that bar changes on some paths of a root, and what they mean for the two roots of a
-- profile.
use Rattle.std.specs.Prelude.{ℕ, List, [], ◌∷◌, map, Result, Ok, Err, if◌then◌else◌}
use Rattle.hub_path.specs.Path.{Path, path_eq}
use Rattle.hub_path.specs.Reading.{root_reading}
use Rattle.hub_path.specs.declared.fault.PathFault.{PathFault}
use Rattle.hub_path.specs.declared.side.Side.{Side}
use Rattle.hub_path.specs.declared.side.Side.TheVariants.{Left, Right}
use Rattle.hub_glob.specs.Specification.{Specification}
use Rattle.hub_glob.specs.Reading.{spec_reading}
use Rattle.hub_glob.specs.declared.fault.GlobFault.{GlobFault}
use Rattle.hub_profile.specs.Arrow.{has_arrow, spec_and_root}
use Rattle.hub_profile.specs.declared.fault.Fault.{Fault}
use Rattle.hub_profile.specs.declared.fault.Fault.TheVariants as fault
use Rattle.hub_profile.specs.declared.bars.Bars.{Bars}
use Rattle.hub_profile.specs.declared.partial.Partial.{Partial}
use Rattle.hub_profile.specs.declared.partial_line.PartialLine.{PartialLine}

abbrev pub partial_line : ℕ → Bars → Specification → Path → PartialLine
partial_line n bars spec root = record { line = n; bars = bars; spec = spec; root = root }

-- The fault of the specification is reported before that of the root.
abbrev pub partial_line_of : ℕ → Bars → Result Specification GlobFault → Result Path PathFault
    → Result PartialLine Fault
partial_line_of n bars (Ok spec) (Ok root) = Ok (partial_line n bars spec root)
partial_line_of n bars (Ok spec) (Err e) = Err (fault.BadPath e)
partial_line_of n bars (Err e) root = Err (fault.BadPattern e)

-- What the value of a line says.
abbrev pub partial_line_reading : Bars → ℕ → List ℕ → Result PartialLine Fault
partial_line_reading bars n v =
    if has_arrow v
    then partial_line_of n bars (spec_reading (spec_and_root v).0)
    (root_reading (spec_and_root v).1)
    else Err fault.NoArrow

-- The side of a root that is one of the two.
abbrev pub side_of : Path → Path → Side
side_of left root = if path_eq root left then Left else Right

-- The bar of a line whose root is one of the two.
abbrev pub partial_at : Path → PartialLine → Partial
partial_at left line =
    record { side = side_of left line.root; bars = line.bars; spec = line.spec }

-- The bars of the lines, in their order. The first of the roots is the left one.
abbrev pub partials_of : List Path → List PartialLine → List Partial
partials_of [] lines = []
partials_of (left ∷ roots) lines = map (partial_at left) lines
