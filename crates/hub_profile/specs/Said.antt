-- What the lines of a profile's text say.
use Rattle.std.specs.Prelude.{List, []}
use Rattle.hub_path.specs.Path.{Path}
use Rattle.hub_glob.specs.Specification.{Specification}
use Rattle.hub_profile.specs.declared.protection.ProtectionLine.{ProtectionLine}
use Rattle.hub_profile.specs.declared.partial_line.PartialLine.{PartialLine}

-- Each root, each value of a `path` line, each specification, each line that protects a root, and
-- each line that bars changes on some paths of a root, in the order of their lines.
pub record Said : Type 0 where
  pub roots : List Path
  pub paths : List Path
  pub ignore : List Specification
  pub ignorenot : List Specification
  pub protections : List ProtectionLine
  pub partials : List PartialLine

abbrev pub nothing_said : Said
nothing_said = record {
  roots = [];
  paths = [];
  ignore = [];
  ignorenot = [];
  protections = [];
  partials = [];
}
