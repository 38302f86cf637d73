-- What a remark is made of.
use Rattle.std.specs.Prelude.{◌≡◌, ℕ, List, [], ◌∷◌, ◌++◌, Some, slice_get, codes}
use denote.Ref.{Bor}

-- A line of a remark, in bytes.
abbrev pub said : List ℕ → List ℕ
said words = codes "hubsync: " ++ (words ++ 10 ∷ [])

-- A word is one of these.
abbrev pub IsAmong : List (Bor (List ℕ)) → Bor (List ℕ) → Type 0
IsAmong words word = (i : ℕ) × (slice_get words i ≡ Some word)
