-- Calls of readers and writers that failed, and reads that met the end.
use Rattle.std.specs.Prelude.{ℕ, Bool, true, false, not, ◌&&◌, ◌==◌, List, Option, Result, Ok, Err, take}
use Rattle.std.specs.Io.KnownBytes.{Appends}

-- A write of a piece of that length that returned an error, or took nothing of a piece that isn't
-- empty.
abbrev pub is_failed_write : {E : Type 0} → ℕ → Result ℕ E → Bool
is_failed_write len (Ok n) = (n == 0) && not (len == 0)
is_failed_write len (Err e) = true

-- A read into a buffer of that length, which isn't empty, that gave nothing.
abbrev pub is_end : {E : Type 0} → ℕ → Result ℕ E → Bool
is_end len (Ok n) = (n == 0) && not (len == 0)
is_end len (Err e) = false

-- The known bytes grew by a prefix of these.
abbrev pub AppendsPrefix : Option (List ℕ) → Option (List ℕ) → List ℕ → Type 0
AppendsPrefix old new bs = (n : ℕ) × Appends old new (take n bs)
