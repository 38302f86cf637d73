-- What is kept of `ignore` lines.
use Rattle.std.specs.Prelude.{ℕ, ◌+◌, Bool, true, false, List, [], ◌∷◌, ◌++◌, if◌then◌else◌}
use Rattle.hub_glob.specs.Specification.{Specification}
use Rattle.hub_unison.specs.declared.kept.Kept.{Kept}
use Rattle.hub_unison.specs.declared.kept.Kept.TheVariants.{Nothing, Cut, Alone, Sparing}

-- The `ignore` lines and the `ignorenot` lines of what is kept of a line.
abbrev pub own_lines : Kept → List Specification
own_lines Nothing = []
own_lines Cut = []
own_lines (Alone s) = s ∷ []
own_lines (Sparing s spare) = s ∷ []

abbrev pub spare_lines : Kept → List Specification
spare_lines Nothing = []
spare_lines Cut = []
spare_lines (Alone s) = []
spare_lines (Sparing s spare) = spare ∷ []

-- Nothing is kept of a line since a pattern would be too long.
abbrev pub is_cut : Kept → Bool
is_cut Nothing = false
is_cut Cut = true
is_cut (Alone s) = false
is_cut (Sparing s spare) = false

-- The numbers, from `at` on, of those of which nothing is kept since a pattern would be too long.
abbrev pub cut_from : ℕ → List Kept → List ℕ
cut_from at [] = []
cut_from at (k ∷ ks) = (if is_cut k then at ∷ [] else []) ++ cut_from (at + 1) ks
