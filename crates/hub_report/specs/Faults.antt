-- What faults are called in their lines, and the line of a fault.
use Rattle.std.specs.Prelude.{ℕ, List, [], ◌∷◌, ◌++◌, codes, encode_utf8_all}
use Rattle.hub_path.specs.declared.fault.PathFault.{PathFault}
use Rattle.hub_path.specs.declared.fault.PathFault.TheVariants as path
use Rattle.hub_glob.specs.declared.fault.GlobFault.{GlobFault}
use Rattle.hub_glob.specs.declared.fault.GlobFault.TheVariants as pattern
use Rattle.hub_profile.specs.declared.fault.Fault.{Fault}
use Rattle.hub_profile.specs.declared.fault.Fault.TheVariants as fault
use Rattle.hub_state.specs.declared.fault.Fault as of_state
use Rattle.hub_state.specs.declared.fault.Fault.TheVariants as state
use Rattle.hub_bundle.specs.declared.bundle.BundleFault.{BundleFault}
use Rattle.hub_bundle.specs.declared.bundle.BundleFault.TheVariants as bundle
use Rattle.hub_bundle.specs.declared.input.InputFault.{InputFault}
use Rattle.hub_bundle.specs.declared.input.InputFault.TheVariants as input
use Rattle.hub_bundle.specs.declared.sections.SectionFault.{SectionFault}
use Rattle.hub_bundle.specs.declared.sections.SectionFault.TheVariants.{OfProfile, OfRules, OfState, OfCertificates}
use Rattle.hub_report.specs.Refusal.{joined}

abbrev pub path_fault_name : PathFault → List ℕ
path_fault_name path.Empty = codes "Empty"
path_fault_name path.EmptyName = codes "EmptyName"
path_fault_name path.DotName = codes "DotName"
path_fault_name path.BadCharacter = codes "BadCharacter"
path_fault_name path.NameTooLong = codes "NameTooLong"
path_fault_name path.TooDeep = codes "TooDeep"
path_fault_name path.LeadingSlash = codes "LeadingSlash"
path_fault_name path.NotAbsolute = codes "NotAbsolute"
path_fault_name path.RemoteRoot = codes "RemoteRoot"
path_fault_name path.OutOfMemory = codes "OutOfMemory"

abbrev pub pattern_fault_name : GlobFault → List ℕ
pattern_fault_name pattern.NoKind = codes "NoKind"
pattern_fault_name pattern.RegexLeftOut = codes "RegexLeftOut"
pattern_fault_name pattern.EmptyPattern = codes "EmptyPattern"
pattern_fault_name pattern.OpenBracket = codes "OpenBracket"
pattern_fault_name pattern.OpenBrace = codes "OpenBrace"
pattern_fault_name pattern.NestedBraces = codes "NestedBraces"
pattern_fault_name pattern.BadRange = codes "BadRange"
pattern_fault_name pattern.NegatedSet = codes "NegatedSet"
pattern_fault_name pattern.BadEscape = codes "BadEscape"
pattern_fault_name pattern.SlashInName = codes "SlashInName"
pattern_fault_name pattern.SlashInSet = codes "SlashInSet"
pattern_fault_name pattern.LeadingSlash = codes "LeadingSlash"
pattern_fault_name pattern.TooLong = codes "TooLong"
pattern_fault_name pattern.TooManyChoices = codes "TooManyChoices"
pattern_fault_name pattern.OutOfMemory = codes "OutOfMemory"

-- The fault of a profile or of rules. A preference that isn't known is named as it was written.
abbrev pub profile_fault_name : Fault → List ℕ
profile_fault_name fault.NotUtf8 = codes "NotUtf8"
profile_fault_name fault.NoEquals = codes "NoEquals"
profile_fault_name fault.IncludeLeftOut = codes "IncludeLeftOut"
profile_fault_name (fault.UnknownPreference p) = codes "UnknownPreference " ++ encode_utf8_all p
profile_fault_name fault.LeftOutValue = codes "LeftOutValue"
profile_fault_name (fault.BadPath f) = codes "BadPath " ++ path_fault_name f
profile_fault_name (fault.BadPattern f) = codes "BadPattern " ++ pattern_fault_name f
profile_fault_name fault.Repeated = codes "Repeated"
profile_fault_name fault.RootCount = codes "RootCount"
profile_fault_name fault.SameRoots = codes "SameRoots"
profile_fault_name fault.RootsNested = codes "RootsNested"
profile_fault_name fault.NotARoot = codes "NotARoot"
profile_fault_name fault.RuleBeforeRoot = codes "RuleBeforeRoot"
profile_fault_name fault.TooMany = codes "TooMany"
profile_fault_name fault.OutOfMemory = codes "OutOfMemory"
profile_fault_name fault.NoArrow = codes "NoArrow"

abbrev pub state_fault_name : of_state.Fault → List ℕ
state_fault_name state.BadHeader = codes "BadHeader"
state_fault_name state.BadLine = codes "BadLine"
state_fault_name state.BadPath = codes "BadPath"
state_fault_name state.BadHex = codes "BadHex"
state_fault_name state.NoParent = codes "NoParent"
state_fault_name state.Repeated = codes "Repeated"
state_fault_name state.TooLarge = codes "TooLarge"
state_fault_name state.Truncated = codes "Truncated"
state_fault_name state.ReadFailed = codes "ReadFailed"
state_fault_name state.WriteFailed = codes "WriteFailed"
state_fault_name state.TurnsSpent = codes "TurnsSpent"
state_fault_name state.OutOfMemory = codes "OutOfMemory"
state_fault_name state.UnknownBlob = codes "UnknownBlob"
state_fault_name state.WrongDigest = codes "WrongDigest"

abbrev pub bundle_fault_name : BundleFault → List ℕ
bundle_fault_name bundle.NoSection = codes "NoSection"
bundle_fault_name bundle.UnknownSection = codes "UnknownSection"
bundle_fault_name bundle.BadName = codes "BadName"
bundle_fault_name bundle.SectionTwice = codes "SectionTwice"
bundle_fault_name bundle.OutOfMemory = codes "OutOfMemory"

abbrev pub input_fault_name : InputFault → List ℕ
input_fault_name input.ReadFailed = codes "ReadFailed"
input_fault_name input.TurnsSpent = codes "TurnsSpent"
input_fault_name input.OutOfMemory = codes "OutOfMemory"

abbrev pub section_fault_name : SectionFault → List ℕ
section_fault_name (OfProfile name f) = profile_fault_name f.fault
section_fault_name (OfRules f) = profile_fault_name f.fault
section_fault_name (OfState f) = state_fault_name f.fault
section_fault_name (OfCertificates line) = codes "BadText"

-- The line of a fault: the place that has it, and what it is called.
abbrev pub fault_line : List ℕ → List ℕ → List ℕ
fault_line place name = joined (codes "fault: " ∷ place ∷ codes ": " ∷ name ∷ codes "\n" ∷ [])
