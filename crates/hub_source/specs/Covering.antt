-- Which paths a path covers, by their characters.
use Rattle.std.specs.Prelude.{◌≡◌, ℕ, Bool, true, false, ◌&&◌, ◌||◌, ◌==◌, nat_eq, List, Option, MatchOption, length, drop, codes, chars}
use Rattle.std.specs.List.{starts_with}
use denote.Ref.{Bor}
use Rattle.hub_text.specs.Lines.{without_last}

-- What follows a front in a text, if the text begins with it.
abbrev pub IsRestAfter : List ℕ → List ℕ → Option (Bor (List ℕ)) → Type 0
IsRestAfter front cs r =
    MatchOption r (starts_with nat_eq cs front ≡ false)
    (λ x. (starts_with nat_eq cs front ≡ true) × (chars x.now ≡ drop (length front) cs))

-- A name ends where nothing follows it, or a `/`.
abbrev pub ends_name : List ℕ → Bool
ends_name rest = length rest == 0 || starts_with nat_eq rest (codes "/")

-- A path begins with the names of another one. The empty one has none.
abbrev pub begins_with_names : List ℕ → List ℕ → Bool
begins_with_names above path =
    starts_with nat_eq path above && (length above == 0 || ends_name (drop (length above) path))

-- A path is another one, which may end with a `/`, or below it.
abbrev pub is_within_path : List ℕ → List ℕ → Bool
is_within_path above path = begins_with_names (without_last 47 above) path
