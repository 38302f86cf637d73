-- The parts of a text of bytes.
use Rattle.std.specs.Prelude.{ℕ, Bool, ◌==◌, ◌-◌, nat_eq, List, [], ◌∷◌, length, take, drop, reverse, Option, Some, None, codes, if◌then◌else◌}
use Rattle.std.specs.Cmp.Lexicographic.{pointwise}
use Rattle.std.specs.List.{list_any}

-- Whether a byte is among these.
abbrev pub is_one_of : List ℕ → ℕ → Bool
is_one_of these b = list_any (λ d. d == b) these

abbrev pub begins_with : List ℕ → List ℕ → Bool
begins_with word text = pointwise nat_eq (take (length word) text) word

-- A text from the first byte on that is none of these,
abbrev pub skip : List ℕ → List ℕ → List ℕ
skip these [] = []
skip these (b ∷ bs) = if is_one_of these b then skip these bs else b ∷ bs

-- up to the last byte that is none of these,
abbrev pub skip_end : List ℕ → List ℕ → List ℕ
skip_end these text = reverse (skip these (reverse text))

-- and from the first byte on that is one of these.
abbrev pub from_first : List ℕ → List ℕ → List ℕ
from_first these [] = []
from_first these (b ∷ bs) = if is_one_of these b then b ∷ bs else from_first these bs

-- What precedes the end of a text, and what follows its beginning.
abbrev pub before : List ℕ → List ℕ → List ℕ
before text end = take (length text - length end) text

abbrev pub behind : List ℕ → List ℕ → List ℕ
behind text front = drop (length front) text

-- What follows the last `@`; the whole text, if it has none.
abbrev pub behind_at : List ℕ → List ℕ → List ℕ
behind_at found [] = found
behind_at found (b ∷ bs) = behind_at (if b == 64 then bs else found) bs

abbrev pub host_in : List ℕ → List ℕ
host_in name = behind_at name name

-- What follows the last `->`, if there is one.
abbrev pub behind_arrow : Option (List ℕ) → List ℕ → Option (List ℕ)
behind_arrow found [] = found
behind_arrow found (b ∷ bs) =
    behind_arrow (if begins_with (codes "->") (b ∷ bs) then Some (drop 1 bs) else found) bs

abbrev pub behind_last_arrow : List ℕ → Option (List ℕ)
behind_last_arrow text = behind_arrow None text
