-- The text of a line, of which the bytes are known.
use Rattle.std.specs.Prelude.{ℕ, Bool, ◌||◌, ◌==◌, nat_eq, List, [], ◌∷◌, if◌then◌else◌}
use Rattle.std.specs.List.{list_any, starts_with}
use Rattle.std.specs.Str.{is_utf8}
use Rattle.hub_text.specs.Lines.{without_last_cr}

-- Bytes that are not UTF-8 are taken as no text.
abbrev pub utf8_or_empty : List ℕ → List ℕ
utf8_or_empty bytes = if is_utf8 bytes then bytes else []

abbrev pub text_shown : List ℕ → List ℕ
text_shown line = utf8_or_empty (without_last_cr line)

-- The line begins with a byte order mark of UTF-8.
abbrev pub is_marked : List ℕ → Bool
is_marked line = starts_with nat_eq line (239 ∷ 187 ∷ 191 ∷ [])

-- It begins with a byte order mark of UTF-16, or has a NUL.
abbrev pub seems_utf16 : List ℕ → Bool
seems_utf16 line =
    starts_with nat_eq line (255 ∷ 254 ∷ [])
    || (starts_with nat_eq line (254 ∷ 255 ∷ []) || list_any (λ b. b == 0) line)

-- A CR stands before another character of it.
abbrev pub has_cr_within : List ℕ → Bool
has_cr_within line = list_any (λ b. b == 13) (without_last_cr line)

-- Something is odd about its encoding.
abbrev pub is_odd : List ℕ → Bool
is_odd line = is_marked line || (seems_utf16 line || has_cr_within line)
