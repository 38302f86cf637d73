-- A table by names, and the search for a name in it.
use Rattle.std.proofs.Common.{◌≡◌, ℕ, Bool, true, false, List, [], ◌∷◌, nat_lt, refl, ap, ◌∙◌, bytes_eq, Some, None, Option, sym, cond}
use Rattle.std.specs.List.{list_all, find}
use Rattle.std.specs.Option.{option_map, option_or}
use denote.Ref.{Bor}
use Rattle.std.specs.Str.{IsUtf8, chars}
use Rattle.std.proofs.lemmas.Bool.{and_parts}
use Rattle.hub_text.specs.laws.AsciiWords.{word_is}
use Rattle.hub_profile.specs.LineByLine.{look_up, are_words}
use Rattle.hub_preferences.specs.Table.{means, meanings_of}
use Rattle.hub_preferences.specs.declared.table.Preference.{Preference}
use Rattle.hub_preferences.specs.declared.table.Meaning.{Meaning}

-- What a search for a name finds.
find_row : (bs : List ℕ) (rows : List (Bor (List ℕ) × Preference)) → IsUtf8 bs → are_words (meanings_of rows) ≡ true
    → option_map (λ (row : Bor (List ℕ) × Preference). means row.1.rule row.1.effect) (find (λ (row : Bor (List ℕ) × Preference). bytes_eq row.0.now bs) rows) ≡ look_up (chars bs) (meanings_of rows)
find_row bs [] u h = refl
find_row bs (row ∷ rows) u h =
    let ascii = and_parts (list_all (λ c. nat_lt c 128) row.0.now) _ h in
    by_case (bytes_eq row.0.now bs) (bytes_eq (chars bs) row.0.now) (word_is row.0.now bs u ascii.0) (find_row bs rows u ascii.1)
  where
    by_case : (a b : Bool) → a ≡ b → option_map (λ (r : Bor (List ℕ) × Preference). means r.1.rule r.1.effect) (find (λ (r : Bor (List ℕ) × Preference). bytes_eq r.0.now bs) rows) ≡ look_up (chars bs) (meanings_of rows)
        → option_map (λ (r : Bor (List ℕ) × Preference). means r.1.rule r.1.effect) (cond a (Some row) (find (λ (r : Bor (List ℕ) × Preference). bytes_eq r.0.now bs) rows)) ≡ cond b (Some (means row.1.rule row.1.effect)) (look_up (chars bs) (meanings_of rows))
    by_case true true e rest = refl
    by_case true false e rest = cc
    by_case false true e rest = cc
    by_case false false e rest = rest

pub look_up-find : (bs : List ℕ) (rows : List (Bor (List ℕ) × Preference)) (table : List (List ℕ × Meaning)) → IsUtf8 bs → meanings_of rows ≡ table → are_words table ≡ true
    → option_map (λ (row : Bor (List ℕ) × Preference). means row.1.rule row.1.effect) (find (λ (row : Bor (List ℕ) × Preference). bytes_eq row.0.now bs) rows) ≡ look_up (chars bs) table
look_up-find bs rows table u e h = find_row bs rows u (ap are_words e ∙ h) ∙ ap (look_up (chars bs)) e

-- What is beside a name in the first of two tables that has it.
pub in_first : (r a b : Option Meaning) → r ≡ a → (m : Meaning) → r ≡ Some m → Some m ≡ option_or a b
in_first r a b e m is = sym (ap (λ o. option_or o b) (sym e ∙ is))

pub in_second : (r a b q : Option Meaning) → r ≡ a → r ≡ None → q ≡ b → q ≡ option_or a b
in_second r a b q e is later = later ∙ sym (ap (λ o. option_or o b) (sym e ∙ is))
