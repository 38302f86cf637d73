-- Worked examples of first lines.
use Rattle.std.specs.Prelude.{◌≡◌, ℕ, List, [], None, Some, refl, codes}
use Rattle.hub_serve.specs.Serves.{Begins}

-- A line that was written to an empty output, and the word that it begins with.
a_line_begins_with_its_word : Begins (Some []) (Some []) (Some (codes "reached\n")) (codes "reached")
    [] (codes "\n")
a_line_begins_with_its_word =
    record { before = []; input = refl; kept = refl; written = refl }

-- What was there before doesn't count.
only_what_is_written_counts : Begins (Some []) (Some (codes "safe\n")) (Some (codes "safe\nreached\n"))
    (codes "reached\n") [] []
only_what_is_written_counts =
    record { before = codes "safe\n"; input = refl; kept = refl; written = refl }

-- An output of which nothing is known, and an input that is another one.
an_unknown_output_shows_nothing : (word text : List ℕ) → Begins (Some []) None None word [] text → ⊥
an_unknown_output_shows_nothing word text b = cc b.kept

another_input_is_not_that_one : (word text : List ℕ)
    → Begins (Some (codes "a")) (Some []) (Some []) word [] text → ⊥
another_input_is_not_that_one word text b = cc b.input
