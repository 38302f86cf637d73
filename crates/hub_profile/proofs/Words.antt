-- A table by names, and the search for a name in it.
use Rattle.std.proofs.Common.{◌≡◌, ℕ, Bool, true, false, List, [], ◌∷◌, nat_lt, refl, ap, ◌∙◌, bytes_eq, Some, cond}
use Rattle.std.specs.List.{list_all, find}
use Rattle.std.specs.Option.{option_map}
use denote.Ref.{Bor}
use Rattle.std.specs.Str.{IsUtf8, chars}
use Rattle.std.proofs.lemmas.Bool.{and_parts}
use Rattle.hub_text.specs.laws.AsciiWords.{word_is}
use Rattle.hub_profile.specs.LineByLine.{look_up, rows_of, are_words}

-- What a search for a name finds.
find_row : {K : Type 0} (bs : List ℕ) (rows : List (Bor (List ℕ) × K)) → IsUtf8 bs → are_words (rows_of rows) ≡ true
    → option_map (λ (row : Bor (List ℕ) × K). row.1) (find (λ (row : Bor (List ℕ) × K). bytes_eq row.0.now bs) rows) ≡ look_up (chars bs) (rows_of rows)
find_row bs [] u h = refl
find_row {K = K} bs (row ∷ rows) u h =
    let ascii = and_parts (list_all (λ c. nat_lt c 128) row.0.now) _ h in
    by_case (bytes_eq row.0.now bs) (bytes_eq (chars bs) row.0.now) (word_is row.0.now bs u ascii.0) (find_row bs rows u ascii.1)
  where
    by_case : (a b : Bool) → a ≡ b → option_map (λ (r : Bor (List ℕ) × K). r.1) (find (λ (r : Bor (List ℕ) × K). bytes_eq r.0.now bs) rows) ≡ look_up (chars bs) (rows_of rows)
        → option_map (λ (r : Bor (List ℕ) × K). r.1) (cond a (Some row) (find (λ (r : Bor (List ℕ) × K). bytes_eq r.0.now bs) rows)) ≡ cond b (Some row.1) (look_up (chars bs) (rows_of rows))
    by_case true true e rest = refl
    by_case true false e rest = cc
    by_case false true e rest = cc
    by_case false false e rest = rest

pub look_up-find : {K : Type 0} (bs : List ℕ) (rows : List (Bor (List ℕ) × K)) (table : List (List ℕ × K)) → IsUtf8 bs → rows_of rows ≡ table → are_words table ≡ true
    → option_map (λ (row : Bor (List ℕ) × K). row.1) (find (λ (row : Bor (List ℕ) × K). bytes_eq row.0.now bs) rows) ≡ look_up (chars bs) table
look_up-find bs rows table u e h = find_row bs rows u (ap are_words e ∙ h) ∙ ap (look_up (chars bs)) e
