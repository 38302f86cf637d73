-- How a reading fails, and what is read after it.
use Rattle.std.specs.Prelude.{◌≡◌, ◌⊎◌, Result, Ok, Err}

-- The fault is the one that says that memory is out, or the fault of the reading.
abbrev pub Fails : {T E : Type 0} → E → Result T E → E → Type 0
Fails memory reading e = (e ≡ memory) ⊎ (reading ≡ Err e)

-- What is read next, or the fault of what was read first.
abbrev pub and_then : {T U E : Type 0} → Result T E → (T → Result U E) → Result U E
and_then (Ok x) f = f x
and_then (Err e) f = Err e
