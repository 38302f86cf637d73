-- What a failed reading of the input says.
use Rattle.std.specs.Prelude.{Bool, true, false, Option, Some, None, Result, Ok, Err}
use Rattle.hub_bundle.specs.declared.input.InputFault.{InputFault}
use Rattle.hub_bundle.specs.declared.input.InputFault.TheVariants.{ReadFailed, TurnsSpent, OutOfMemory}

-- The fault says that a read failed.
abbrev pub says_failed : InputFault → Bool
says_failed ReadFailed = true
says_failed TurnsSpent = false
says_failed OutOfMemory = false

abbrev pub says_read_failed : {T : Type 0} → Result T InputFault → Bool
says_read_failed (Ok x) = false
says_read_failed (Err f) = says_failed f

-- The fault, if the reads ended before the input did.
abbrev pub unread_fault : InputFault → Option InputFault
unread_fault ReadFailed = Some ReadFailed
unread_fault TurnsSpent = Some TurnsSpent
unread_fault OutOfMemory = None

-- There is a fault, and it says that a read failed.
abbrev pub some_failed : Option InputFault → Bool
some_failed None = false
some_failed (Some f) = says_failed f
