-- A text that comes in blocks: what the lines that were taken say, and the bytes from the next line
-- on.
use Rattle.std.specs.Prelude.{◌≡◌, ◌⊎◌, ℕ, ◌+◌, ◌≤◌, List, [], ◌∷◌, ◌++◌, length, Option, Some, None, Result, Ok, Err, IfSome}
use Rattle.hub_text.specs.declared.line.Line.{Line as TextLine}
use Rattle.hub_text.specs.Lines.{lines_of, line_text}
use Rattle.hub_state.specs.declared.fault.Fault.{Fault}
use Rattle.hub_state.specs.declared.fault.Fault.TheVariants.{Truncated, OutOfMemory, ReadFailed, TurnsSpent}
use Rattle.hub_state.specs.declared.fault.StateFault.{StateFault}
use Rattle.hub_state.specs.declared.draft.Draft.{Draft}
use Rattle.hub_state.specs.declared.reader.Prefix.{Prefix}
use Rattle.hub_state.specs.declared.reader.TheConstants.{READ_TURNS}
use Rattle.hub_state.specs.State.{State}
use Rattle.hub_state.specs.Reading.{fault_at, state_reading}
use Rattle.hub_state.specs.Taking.{IsApart, numbered_taken, last_taken}
use Rattle.hub_text.specs.Fails.{and_then}

-- What the lines from the n-th on say, after what a draft has.
abbrev pub lines_taken : ℕ → Draft → List (TextLine (List ℕ)) → Result State StateFault
lines_taken n a [] = Err (record { line = 1; fault = Truncated })
lines_taken n a (l ∷ []) = fault_at n (last_taken n a l.is_ended l.text)
lines_taken n a (l ∷ k ∷ ls) =
    and_then (fault_at n (numbered_taken n a l.text)) (λ b. lines_taken (n + 1) b (k ∷ ls))

abbrev pub bytes_taken : ℕ → Draft → List ℕ → Result State StateFault
bytes_taken n a bytes = lines_taken n a (lines_of bytes)

-- The bytes of a line, if there is one.
abbrev pub taken_line_text : Option (TextLine (List ℕ)) → List ℕ
taken_line_text None = []
taken_line_text (Some l) = line_text l

abbrev pub out_of_memory : StateFault
out_of_memory = record { line = 0; fault = OutOfMemory }

-- The lines of these bytes were taken but the last. Whatever follows, the text is read on from the
-- last line.
pub record LeavesLine (n : ℕ) (a : Draft) (bytes : List ℕ) (m : ℕ) (b : Draft)
    (l : TextLine (List ℕ)) : Type 0 where
  pub one : lines_of (line_text l) ≡ l ∷ []
  pub same : (t : List ℕ) → bytes_taken n a (bytes ++ t) ≡ bytes_taken m b (line_text l ++ t)
  pub room : m + length (line_text l) ≤ n + length bytes

abbrev pub Leaves : ℕ → Draft → List ℕ → ℕ → Draft → Option (TextLine (List ℕ)) → Type 0
Leaves n a bytes m b None = (bytes ≡ []) × (m ≡ n) × (b ≡ a)
Leaves n a bytes m b (Some l) = LeavesLine n a bytes m b l

-- The fault of a line that is reported whatever follows, or want of memory.
abbrev pub Stops : ℕ → Draft → List ℕ → StateFault → Type 0
Stops n a bytes e = (e ≡ out_of_memory) ⊎ ((t : List ℕ) → bytes_taken n a (bytes ++ t) ≡ Err e)

-- Whatever follows these bytes, the text is read on from the prefix.
pub record ReadsOn (bytes : List ℕ) (p : Prefix) : Type 0 where
  pub same : (t : List ℕ) → state_reading (bytes ++ t)
      ≡ bytes_taken p.number p.draft (p.rest.items ++ t)

-- What is known of a text that begins with these bytes: a prefix was taken, or there is a fault.
abbrev pub Stands : {T : Type 0} → List ℕ → Prefix → Result T StateFault → Type 0
Stands bytes p (Ok u) = ReadsOn bytes p
Stands bytes p (Err e) =
    (e ≡ out_of_memory) ⊎ ((t : List ℕ) → state_reading (bytes ++ t) ≡ Err e)

-- The next line's number and the bytes that are left are together at most so many.
pub record IsWithin (p : Prefix) (most : ℕ) : Type 0 where
  pub apart : IsApart p.draft.current
  pub room : p.number + length p.rest.items ≤ most

-- The state of a whole input, and why there is none, where its bytes are known: a fault of its text,
-- or one that says nothing about it.
abbrev pub IsReading : Option (List ℕ) → State → Type 0
IsReading input s = IfSome input (λ bytes. state_reading bytes ≡ Ok s)

abbrev pub EndsReading : Option (List ℕ) → StateFault → Type 0
EndsReading input e =
    (e ≡ out_of_memory) ⊎ (e ≡ record { line = 0; fault = ReadFailed })
    ⊎ ((e ≡ record { line = 0; fault = TurnsSpent })
    × IfSome input (λ bytes. READ_TURNS ≤ length bytes))
    ⊎ IfSome input (λ bytes. state_reading bytes ≡ Err e)

-- The claim holds of each text from which this prefix was taken, or a fault; and of each that is
-- read on from the prefix.
abbrev pub OfTaken : {T : Type 0} → Prefix → Result T StateFault → (List ℕ → Type 0) → Type 0
OfTaken p taken C = (bytes : List ℕ) → Stands bytes p taken → C bytes

abbrev pub OfReadOn : Prefix → (List ℕ → Type 0) → Type 0
OfReadOn p C = (bytes : List ℕ) → ReadsOn bytes p → C bytes

-- All bytes of the input were taken, if they are known.
abbrev pub StandsAtEnd : {T : Type 0} → Option (List ℕ) → Prefix → Result T StateFault → Type 0
StandsAtEnd input p taken =
    (read : List ℕ) × Stands read p taken × IfSome input (λ bytes. read ≡ bytes)

-- Why so many reads didn't meet the end of an input.
abbrev pub StopsReading : Option (List ℕ) → ℕ → Fault → Type 0
StopsReading input turns f =
    (f ≡ ReadFailed) ⊎ ((f ≡ TurnsSpent) × IfSome input (λ bytes. turns ≤ length bytes))

-- The most that is left after more bytes.
abbrev pub most_after : Prefix → List ℕ → ℕ
most_after p more = p.number + length p.rest.items + length more
