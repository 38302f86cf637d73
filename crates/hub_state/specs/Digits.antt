-- What is found of a text of hexadecimal digits.
use Rattle.std.specs.Prelude.{◌≡◌, Bool, true, false, ℕ, List, Option, Some, None, Result, MatchResult}
use Rattle.hex.specs.declared.error.FromHexError.{FromHexError}

-- The bytes that it decodes to, or none if it doesn't.
abbrev pub ReadsAs : Result (List ℕ) FromHexError → Option (List ℕ) → Type 0
ReadsAs decoded found = MatchResult decoded (λ bytes. found ≡ Some bytes) (λ _. found ≡ None)

-- Whether it decodes, and then to these bytes.
abbrev pub AreRead : Result (List ℕ) FromHexError → Bool → List ℕ → Type 0
AreRead decoded all found =
    MatchResult decoded (λ bytes. (all ≡ true) × (found ≡ bytes)) (λ _. all ≡ false)
