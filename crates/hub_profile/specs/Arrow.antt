-- The value of a line that bars changes on some paths: `PATHSPEC -> ROOT`, cut at the last arrow.
use Rattle.std.specs.Prelude.{◌≡◌, ℕ, Bool, true, false, ◌||◌, nat_eq, List, [], ◌∷◌, drop, if◌then◌else◌, codes, chars}
use Rattle.std.specs.List.{starts_with}
use denote.Ref.{Bor}
use Rattle.hub_profile.specs.Lines.{both_chars, trimmed}

abbrev pub begins_with_arrow : List ℕ → Bool
begins_with_arrow cs = starts_with nat_eq cs (codes "->")

abbrev pub has_arrow : List ℕ → Bool
has_arrow [] = false
has_arrow (c ∷ cs) = begins_with_arrow (c ∷ cs) || has_arrow cs

-- What comes before the last arrow of a text that has one.
abbrev pub before_arrow : List ℕ → List ℕ
before_arrow [] = []
before_arrow (c ∷ cs) = if has_arrow cs then c ∷ before_arrow cs else []

-- What comes after it.
abbrev pub after_arrow : List ℕ → List ℕ
after_arrow [] = []
after_arrow (c ∷ cs) = if has_arrow cs then after_arrow cs else drop 1 cs

-- A value has an arrow, and these stand before and after the last one.
abbrev pub HasPartsAtArrow : List ℕ → List ℕ × List ℕ → Type 0
HasPartsAtArrow v pair =
    (has_arrow v ≡ true) × (pair.0 ≡ before_arrow v) × (pair.1 ≡ after_arrow v)

-- The text of the specification, and that of the root.
abbrev pub spec_and_root : List ℕ → List ℕ × List ℕ
spec_and_root v = (trimmed (before_arrow v), trimmed (after_arrow v))

-- A value has an arrow, and these are the texts on both sides of the last one.
abbrev pub CutsAtArrow : List ℕ → List ℕ × List ℕ → Type 0
CutsAtArrow v pair =
    (has_arrow v ≡ true) × (pair.0 ≡ (spec_and_root v).0) × (pair.1 ≡ (spec_and_root v).1)

-- The same of a text in UTF-8, and of borrowed texts.
abbrev pub HasTextsAtArrow : List ℕ → Bor (List ℕ) × Bor (List ℕ) → Type 0
HasTextsAtArrow v texts = HasPartsAtArrow (chars v) (both_chars texts)

abbrev pub CutsTextAtArrow : List ℕ → Bor (List ℕ) × Bor (List ℕ) → Type 0
CutsTextAtArrow v texts = CutsAtArrow (chars v) (both_chars texts)
