-- What becomes of a text that lines are written to.
use Rattle.std.specs.Prelude.{◌≡◌, ◌++◌, ℕ, List, String, string_bytes}

-- These bytes were added at its end.
abbrev pub Gains : {Z : Type 0} → String Z → String Z → List ℕ → Type 0
Gains old new bytes = string_bytes new ≡ string_bytes old ++ bytes
