-- Tests of two values that hold exactly when the values are the same: of numbers, lists, structs
-- and enums.
use Rattle.std.specs.Prelude.{◌≡◌, Bool, Decides}

-- The test holds of two values exactly when they are the same.
abbrev pub IsExact : {A : Type 0} → (A → A → Bool) → Type 0
IsExact {A} E = (x y : A) → Decides (E x y) (x ≡ y)
