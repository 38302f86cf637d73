-- The characters of a text in turn.
use Rattle.std.proofs.Common.{◌≡◌, ℕ, ◌<◌, List, [], ◌∷◌, ◌++◌, length, drop, get_or, sym, ◌∙◌}
use Rattle.std.proofs.lemmas.List.{drop_more, length_push}

-- What follows the first characters `ys` of a text is the next one, and then the rest.
pub next_character : (cs ys : List ℕ) (c : ℕ)
    → (length ys < length cs) × (c ≡ get_or cs (length ys) c)
    → drop (length ys) cs ≡ c ∷ drop (length (ys ++ c ∷ [])) cs
next_character cs ys c h =
    drop_more cs (length ys) c h.0 ∙ (λ i. sym h.1 i ∷ drop (sym (length_push ys c) i) cs)
