-- What a line in Unison says that shows a path.
use Rattle.std.specs.Prelude.{◌⊎◌, Bool, true, false, List, []}
use Rattle.hub_profile.specs.Parts.{Parts}
use Rattle.hub_profile.specs.declared.rule.Rule.{Rule}
use Rattle.hub_cert.specs.Set.{IsSafeSet, Members}
use Rattle.hub_cert.specs.declared.fault.CheckFault.{CheckFault}
use Rattle.hub_cert.specs.declared.fault.CheckFault.TheVariants as fault
use Rattle.hub_apart.specs.ApartLines.{IsSetOfOne, IsSetOfTwo, set_of}
use Rattle.hub_apart.specs.NestedLines.{IsMeetingOfRule, IsMeetingOfTwo}
use Rattle.hub_apart.specs.UnisonLines.{beside, cautious}

-- The line shows a path: one at which two profiles clash, or at which a profile breaks a rule.
abbrev pub shows_path : CheckFault → Bool
shows_path (fault.Overlap w o place held path) = true
shows_path (fault.Breach p r path) = true
shows_path _ = false

-- Two of the profiles by their cautious readings, or one with the rules by its reading beside them,
-- make a set that isn't safe. Where roots are nested, it is counted from the upper one.
abbrev pub IsPart : List Parts → List Rule → Members → Type 0
IsPart Ps Rs T =
    (IsSetOfTwo (set_of (cautious Ps) []) T ⊎ IsMeetingOfTwo (cautious Ps) T)
    ⊎ (IsSetOfOne (set_of (beside Rs Ps) Rs) T ⊎ IsMeetingOfRule (beside Rs Ps) Rs T)

abbrev pub HasUnsafePart : List Parts → List Rule → Type 0
HasUnsafePart Ps Rs = (T : Members) × IsPart Ps Rs T × (IsSafeSet T → ⊥)
