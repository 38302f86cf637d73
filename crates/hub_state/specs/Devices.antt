-- What is passed on to a writer, and faults of devices.
use Rattle.std.specs.Prelude.{◌≡◌, ◌⊎◌, ℕ, Bool, true, false, ◌||◌, List, ◌++◌, Option, Result, Ok, Err}
use Rattle.std.specs.Io.KnownBytes.{Appends}
use Rattle.hub_state.specs.declared.fault.Fault.{Fault}
use Rattle.hub_state.specs.declared.fault.Fault.TheVariants.{ReadFailed, WriteFailed, TurnsSpent, OutOfMemory}
use Rattle.hub_state.specs.declared.fault.StateFault.{StateFault}
use Rattle.hub_state.specs.Writing.{joined_lines}
use Rattle.hub_text.specs.declared.watched.Watched.{Watched}

-- These bytes come after what the writer holds and the buffer before. The writer then holds some of
-- them, and the buffer has the others.
abbrev pub Passes : Option (List ℕ) → Option (List ℕ) → List ℕ → List ℕ → List ℕ → Type 0
Passes old new before after bytes =
    (passed : List ℕ) × Appends old new passed × (passed ++ after ≡ before ++ bytes)

-- Why a writing stops: memory is out, or a write failed.
abbrev pub StopsWriting : Fault → Type 0
StopsWriting f = (f ≡ OutOfMemory) ⊎ (f ≡ WriteFailed)

-- The same of a fault with its line, which is none.
abbrev pub EndsWriting : StateFault → Type 0
EndsWriting e =
    (e ≡ record { line = 0; fault = OutOfMemory }) ⊎ (e ≡ record { line = 0; fault = WriteFailed })

abbrev pub is_write_failed : Fault → Bool
is_write_failed WriteFailed = true
is_write_failed _ = false

abbrev pub is_read_failed : Fault → Bool
is_read_failed ReadFailed = true
is_read_failed _ = false

abbrev pub is_turns_spent : Fault → Bool
is_turns_spent TurnsSpent = true
is_turns_spent _ = false

-- The reads ended before the input did.
abbrev pub is_unread : Fault → Bool
is_unread f = is_read_failed f || is_turns_spent f

-- The fault says nothing about the text.
abbrev pub is_not_of_text : Fault → Bool
is_not_of_text OutOfMemory = true
is_not_of_text f = is_unread f

-- Whether the fault is one of these.
abbrev pub says : {T : Type 0} → (Fault → Bool) → Result T Fault → Bool
says f (Ok x) = false
says f (Err e) = f e

abbrev pub reports : {T : Type 0} → (Fault → Bool) → Result T StateFault → Bool
reports f (Ok x) = false
reports f (Err e) = f e.fault

-- The same of a writer before and after, of which this function tells the bytes; and of these lines.
abbrev pub PassesOver : {D : Type 0} → Watched D → Watched D → (D → Option (List ℕ)) → List ℕ
    → List ℕ → List ℕ → Type 0
PassesOver output output_after contents before after bytes =
    Passes (contents output.device) (contents output_after.device) before after bytes

abbrev pub PassesLines : {D : Type 0} → Watched D → Watched D → (D → Option (List ℕ)) → List ℕ
    → List ℕ → List (List ℕ) → Type 0
PassesLines output output_after contents before after ls =
    PassesOver output output_after contents before after (joined_lines ls)

-- These bytes, and no others, were written to such a writer.
abbrev pub AppendsOver : {D : Type 0} → Watched D → Watched D → (D → Option (List ℕ)) → List ℕ
    → Type 0
AppendsOver output output_after contents bytes =
    Appends (contents output.device) (contents output_after.device) bytes
