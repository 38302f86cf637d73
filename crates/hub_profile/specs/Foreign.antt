-- Lines that name a root which is neither of the two.
use Rattle.std.specs.Prelude.{ℕ, nat_le, List, [], ◌∷◌, Option, Some, None, if◌then◌else◌}
use Rattle.std.specs.List.{list_any}
use Rattle.std.specs.Option.{option_map}
use Rattle.hub_path.specs.Path.{Path, path_eq}
use Rattle.hub_profile.specs.declared.protection.ProtectionLine.{ProtectionLine}
use Rattle.hub_profile.specs.declared.partial_line.PartialLine.{PartialLine}
use Rattle.hub_profile.specs.declared.fault.Fault.TheVariants.{NotARoot}
use Rattle.hub_profile.specs.declared.fault.ProfileFault.{ProfileFault}

-- The number of the first line that protects a root which is not among these. Lines stand in the
-- order of the text, so it is the lowest one.
abbrev pub foreign_protection : List Path → List ProtectionLine → Option ℕ
foreign_protection roots [] = None
foreign_protection roots (line ∷ lines) =
    if list_any (path_eq line.root) roots then foreign_protection roots lines else Some line.line

-- The same of the lines that bar changes on some paths.
abbrev pub foreign_partial : List Path → List PartialLine → Option ℕ
foreign_partial roots [] = None
foreign_partial roots (line ∷ lines) =
    if list_any (path_eq line.root) roots then foreign_partial roots lines else Some line.line

-- The lower of two lines, of which either may be missing.
abbrev pub lower : Option ℕ → Option ℕ → Option ℕ
lower None other = other
lower (Some n) None = Some n
lower (Some n) (Some m) = if nat_le n m then Some n else Some m

abbrev pub not_a_root : ℕ → ProfileFault
not_a_root n = record { line = n; fault = NotARoot }

-- The lowest line of both kinds that names a root which is not among these.
abbrev pub foreign_fault : List Path → List ProtectionLine → List PartialLine → Option ProfileFault
foreign_fault roots protections partials =
    option_map not_a_root
    (lower (foreign_protection roots protections) (foreign_partial roots partials))

-- The same where these are the two roots.
abbrev pub fault_of_roots : Path → Path → List ProtectionLine → List PartialLine
    → Option ProfileFault
fault_of_roots left right protections partials =
    foreign_fault (left ∷ right ∷ []) protections partials
