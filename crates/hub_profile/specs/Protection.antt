-- Lines that protect a root, and what they mean for the two roots of a profile.
use Rattle.std.specs.Prelude.{ℕ, Bool, true, false, ◌&&◌, List, [], ◌∷◌, map, Option, Some, None, codes}
use Rattle.std.specs.List.{list_any}
use Rattle.hub_path.specs.Path.{Path, path_eq}
use Rattle.hub_path.specs.declared.side.Side.{Side}
use Rattle.hub_path.specs.declared.side.Side.TheVariants.{Left, Right}
use Rattle.hub_profile.specs.declared.bars.Bars.{Bars}
use Rattle.hub_profile.specs.declared.protection.Protection.{Protection}
use Rattle.hub_profile.specs.declared.protection.Protection.TheVariants.{Force, Prefer, Bar}
use Rattle.hub_profile.specs.declared.protection.ProtectionLine.{ProtectionLine}
use Rattle.hub_profile.specs.Lines.{is_one_of}
use Rattle.hub_profile.specs.Parts.{some_passes, at_side}

abbrev pub is_force : Protection → Bool
is_force Force = true
is_force Prefer = false
is_force (Bar bars) = false

abbrev pub is_prefer : Protection → Bool
is_prefer Force = false
is_prefer Prefer = true
is_prefer (Bar bars) = false

abbrev pub no_bars : Bars
no_bars = record { create = false; update = false; delete = false }

-- The changes that a preference forbids at its root.
abbrev pub bars_of : Protection → Bars
bars_of Force = no_bars
bars_of Prefer = no_bars
bars_of (Bar bars) = bars

abbrev pub has_force : List ProtectionLine → Bool
has_force lines = list_any (λ line. is_force line.protection) lines

abbrev pub has_prefer : List ProtectionLine → Bool
has_prefer lines = list_any (λ line. is_prefer line.protection) lines

-- `force` and `prefer` are given once each; a bar may be repeated.
abbrev pub repeats : Protection → List ProtectionLine → Bool
repeats Force lines = has_force lines
repeats Prefer lines = has_prefer lines
repeats (Bar bars) lines = false

abbrev pub is_newer_or_older : List ℕ → Bool
is_newer_or_older v = is_one_of (codes "newer" ∷ codes "older" ∷ []) v

-- `newer` and `older` are values of `force` and `prefer` that this project leaves out.
abbrev pub is_left_out : Protection → List ℕ → Bool
is_left_out Force v = is_newer_or_older v
is_left_out Prefer v = is_newer_or_older v
is_left_out (Bar bars) v = false

-- Whether a line names this root.
abbrev pub names : Path → ProtectionLine → Bool
names r line = path_eq line.root r

-- Whether a line of `force`, or of `prefer`, names this root.
abbrev pub is_forced : List ProtectionLine → Path → Bool
is_forced lines r = list_any (λ line. is_force line.protection && names r line) lines

abbrev pub is_preferred : List ProtectionLine → Path → Bool
is_preferred lines r = list_any (λ line. is_prefer line.protection && names r line) lines

-- The side that passes: the left one first.
abbrev pub first_side : Bool → Bool → Option Side
first_side true right = Some Left
first_side false true = Some Right
first_side false false = None

-- The side whose root passes the test.
abbrev pub side_where : (Path → Bool) → List Path → Option Side
side_where test roots =
    first_side (some_passes test (at_side roots Left)) (some_passes test (at_side roots Right))

abbrev pub bars_creation : List ProtectionLine → Path → Bool
bars_creation lines r = list_any (λ line. (bars_of line.protection).create && names r line) lines

abbrev pub bars_update : List ProtectionLine → Path → Bool
bars_update lines r = list_any (λ line. (bars_of line.protection).update && names r line) lines

abbrev pub bars_deletion : List ProtectionLine → Path → Bool
bars_deletion lines r = list_any (λ line. (bars_of line.protection).delete && names r line) lines

-- The changes that the lines forbid at a root, all lines that name it together.
abbrev pub bars_at : List ProtectionLine → Path → Bars
bars_at lines r = record {
  create = bars_creation lines r;
  update = bars_update lines r;
  delete = bars_deletion lines r;
}

-- The side whose root all differences, or conflicts, are resolved in favour of.
abbrev pub forced_side : List ProtectionLine → Path → Path → Option Side
forced_side lines left right = side_where (is_forced lines) (left ∷ right ∷ [])

abbrev pub preferred_side : List ProtectionLine → Path → Path → Option Side
preferred_side lines left right = side_where (is_preferred lines) (left ∷ right ∷ [])

-- The changes that the lines forbid at each of two roots.
abbrev pub bars_at_each : List ProtectionLine → Path → Path → List Bars
bars_at_each lines left right = map (bars_at lines) (left ∷ right ∷ [])
