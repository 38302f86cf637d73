-- What a profile says, as contracts see it.
use Rattle.std.specs.Prelude.{Bool, false, List, slice_get, Option, Some, None, IsTrue}
use Rattle.std.specs.List.{list_any}
use Rattle.hub_path.specs.Path.{Name, Path, path_eq}
use Rattle.hub_path.specs.declared.side.Side.{Side}
use Rattle.hub_path.specs.declared.side.Side.TheVariants.{Left, Right}
use Rattle.hub_glob.specs.Specification.{Specification}
use Rattle.hub_profile.specs.declared.bars.Bars.{Bars}
use Rattle.hub_profile.specs.declared.partial.Partial.{Partial}
use Rattle.hub_profile.specs.declared.protection.Protected.{Protected}
use Rattle.hub_profile.specs.Facts.{are_roots, are_kept}

-- A profile's name, its roots in the order Left, Right, its kept values, and what its `ignore` and
-- its `ignorenot` lines specify, each in the order of their lines. Then the side whose root all
-- differences (`force`), or conflicts alone (`prefer`), are resolved in favour of, the changes that
-- are not made at the left and at the right root, and those that are not made on the paths that a
-- specification matches, in the order of their lines.
pub record Parts : Type 0 where
  pub name : Name
  pub roots : List Path
  pub paths : List Path
  pub ignore : List Specification
  pub ignorenot : List Specification
  pub force : Option Side
  pub prefer : Option Side
  pub bars : List Bars
  pub partial : List Partial

abbrev pub parts_of :
    Name → List Path → List Path → List Specification → List Specification → Protected → Parts
parts_of name roots paths ignore ignorenot protected = record {
  name = name;
  roots = roots;
  paths = paths;
  ignore = ignore;
  ignorenot = ignorenot;
  force = protected.force;
  prefer = protected.prefer;
  bars = protected.bars;
  partial = protected.partial;
}

-- What holds of each profile that is read.
pub record IsProfile (P : Parts) : Type 0 where
  pub roots : IsTrue (are_roots P.roots)
  pub paths : IsTrue (are_kept P.paths)

-- Whether there is a value, and it passes.
abbrev pub some_passes : {T : Type 0} → (T → Bool) → Option T → Bool
some_passes test None = false
some_passes test (Some x) = test x

-- Of a pair in the order Left, Right, the part of that side.
abbrev pub at_side : {T : Type 0} → List T → Side → Option T
at_side xs Left = slice_get xs 0
at_side xs Right = slice_get xs 1

-- The root of that side is r.
abbrev pub is_root_at : Parts → Path → Side → Bool
is_root_at P r side = some_passes (path_eq r) (at_side P.roots side)

abbrev pub has_root : Parts → Path → Bool
has_root P r = list_any (λ own. path_eq own r) P.roots
