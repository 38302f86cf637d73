-- Blanks are spaces and tabs.
use Rattle.std.specs.Prelude.{ℕ, Bool, ◌==◌, List, [], ◌∷◌, if◌then◌else◌, codes}
use Rattle.std.specs.List.{list_any}

abbrev pub is_blank : ℕ → Bool
is_blank c = list_any (λ d. d == c) (codes " \t")

-- A text without the blanks at its start.
abbrev pub skip_blanks : List ℕ → List ℕ
skip_blanks [] = []
skip_blanks (c ∷ cs) = if is_blank c then skip_blanks cs else c ∷ cs

abbrev pub is_space : ℕ → Bool
is_space c = c == 32
