-- Faults of a line, and of a whole reading.
use Rattle.std.specs.Prelude.{◌≡◌, ◌⊎◌, Option, Some, Result, Err}
use Rattle.hub_text.specs.Fails.{Fails}
use Rattle.hub_path.specs.declared.fault.PathFault.{PathFault}
use Rattle.hub_path.specs.declared.fault.PathFault.TheVariants as path
use Rattle.hub_glob.specs.declared.fault.GlobFault.{GlobFault}
use Rattle.hub_glob.specs.declared.fault.GlobFault.TheVariants as glob
use Rattle.hub_profile.specs.declared.fault.Fault.{Fault}
use Rattle.hub_profile.specs.declared.fault.Fault.TheVariants.{BadPath, BadPattern, OutOfMemory}
use Rattle.hub_profile.specs.declared.fault.ProfileFault.{ProfileFault}

-- The fault of a value that is not a path. Out of memory is reported as it is everywhere.
abbrev pub of_path : PathFault → Fault
of_path path.Empty = BadPath path.Empty
of_path path.EmptyName = BadPath path.EmptyName
of_path path.DotName = BadPath path.DotName
of_path path.BadCharacter = BadPath path.BadCharacter
of_path path.NameTooLong = BadPath path.NameTooLong
of_path path.TooDeep = BadPath path.TooDeep
of_path path.LeadingSlash = BadPath path.LeadingSlash
of_path path.NotAbsolute = BadPath path.NotAbsolute
of_path path.RemoteRoot = BadPath path.RemoteRoot
of_path path.OutOfMemory = OutOfMemory

-- The fault of a value that is not a path specification, likewise.
abbrev pub of_pattern : GlobFault → Fault
of_pattern glob.NoKind = BadPattern glob.NoKind
of_pattern glob.RegexLeftOut = BadPattern glob.RegexLeftOut
of_pattern glob.EmptyPattern = BadPattern glob.EmptyPattern
of_pattern glob.OpenBracket = BadPattern glob.OpenBracket
of_pattern glob.OpenBrace = BadPattern glob.OpenBrace
of_pattern glob.NestedBraces = BadPattern glob.NestedBraces
of_pattern glob.BadRange = BadPattern glob.BadRange
of_pattern glob.NegatedSet = BadPattern glob.NegatedSet
of_pattern glob.BadEscape = BadPattern glob.BadEscape
of_pattern glob.SlashInName = BadPattern glob.SlashInName
of_pattern glob.SlashInSet = BadPattern glob.SlashInSet
of_pattern glob.LeadingSlash = BadPattern glob.LeadingSlash
of_pattern glob.TooLong = BadPattern glob.TooLong
of_pattern glob.TooManyChoices = BadPattern glob.TooManyChoices
of_pattern glob.OutOfMemory = OutOfMemory

-- The fault of a reading, or out of memory.
abbrev pub FailsAs : {T : Type 0} → Result T Fault → Fault → Type 0
FailsAs reading e = Fails OutOfMemory reading e

-- The fault that there is, with its line, or out of memory.
abbrev pub FailsWith : Option ProfileFault → ProfileFault → Type 0
FailsWith fault e = (e.fault ≡ OutOfMemory) ⊎ (fault ≡ Some e)

-- The fault of a reading with its line, or out of memory.
abbrev pub FailsAt : {T : Type 0} → Result T ProfileFault → ProfileFault → Type 0
FailsAt reading e = (e.fault ≡ OutOfMemory) ⊎ (reading ≡ Err e)
