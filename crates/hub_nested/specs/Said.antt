-- What the parts of a profile that is said from above are made of.
use Rattle.std.specs.Prelude.{Bool, ◌||◌, ◌==◌, List, [], ◌∷◌, ◌++◌, length, map, Option, Some, None, if◌then◌else◌}
use Rattle.hub_path.specs.Path.{Path, is_over}
use Rattle.hub_path.specs.declared.side.Side.TheVariants.{Left, Right}
use Rattle.hub_glob.specs.Specification.{Specification}
use Rattle.hub_profile.specs.Parts.{Parts}
use Rattle.hub_profile.specs.declared.partial.Partial.{Partial}
use Rattle.hub_unison.specs.ReadingOf.{is_read_back}
use Rattle.hub_nested.specs.Lifted.{fixed_at, just, said_spec}

-- Whether what is said of x alone can be written. From its own root nothing is said of it.
abbrev pub is_top_said : Path → Bool
is_top_said x = length x == 0 || is_read_back (just x)

abbrev pub spared_top : Path → List Specification
spared_top x = if length x == 0 then [] else just x ∷ []

abbrev pub both_fixed : Path → List Partial
both_fixed x = fixed_at Left x ∷ fixed_at Right x ∷ []

abbrev pub fixed_top : Path → List Partial
fixed_top x = if length x == 0 then [] else both_fixed x

abbrev pub said_bar : Path → Partial → Partial
said_bar x b = record b { spec = said_spec x b.spec }

-- The profile with these kept values, and its lines said from above by the names x, after these.
abbrev pub with_said : Path → Parts → List Path → List Specification → List Partial → Parts
with_said x P paths spared bars =
    record P {
      paths = paths;
      ignore = map (said_spec x) P.ignore;
      ignorenot = spared ++ map (said_spec x) P.ignorenot;
      partial = bars ++ map (said_bar x) P.partial;
    }

-- The root that is over the other one.
abbrev pub upper_of : Path → Path → Option Path
upper_of r s = if is_over r s then Some r else (if is_over s r then Some s else None)
