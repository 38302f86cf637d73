-- Profiles are told apart by their fields, and so are bars and partial bars.
use Rattle.std.specs.Prelude.{◌&&◌, Bool, nat_eq}
use Rattle.std.specs.Option.{option_eq}
use Rattle.std.specs.Cmp.Lexicographic.{pointwise}
use Rattle.hub_path.specs.declared.side.Side.{Side}
use Rattle.hub_glob.specs.Specification.{Specification}
use Rattle.hub_profile.specs.Parts.{Parts}
use Rattle.hub_profile.specs.declared.bars.Bars.{Bars}
use Rattle.hub_profile.specs.declared.partial.Partial.{Partial}

-- Whether two profiles say the same, by tests of specifications, sides, bars and partial bars.
abbrev pub parts_eq :
    (Specification → Specification → Bool) → (Side → Side → Bool) → (Bars → Bars → Bool)
    → (Partial → Partial → Bool) → Parts → Parts → Bool
parts_eq same_spec same_side same_bars same_partial P Q =
    pointwise nat_eq P.name Q.name
    && pointwise (pointwise (pointwise nat_eq)) P.roots Q.roots
    && pointwise (pointwise (pointwise nat_eq)) P.paths Q.paths
    && pointwise same_spec P.ignore Q.ignore
    && pointwise same_spec P.ignorenot Q.ignorenot
    && option_eq same_side P.force Q.force
    && option_eq same_side P.prefer Q.prefer
    && pointwise same_bars P.bars Q.bars
    && pointwise same_partial P.partial Q.partial
