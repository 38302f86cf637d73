-- Patterns and path specifications: which texts and which paths they match.
use Rattle.std.specs.Prelude.{ℕ, Bool, true, false, not, ◌&&◌, ◌==◌, List, [], ◌∷◌, ◌++◌, map, length, slice_index}
use Rattle.std.specs.List.{list_any, list_all, flat_map}
use Rattle.hub_path.specs.Path.{Path, text_of, last_name, prefixes}
use Rattle.hub_glob.specs.declared.piece.Piece.{Piece}
use Rattle.hub_glob.specs.declared.piece.Piece.TheVariants.{Lit, Any, Run, OneOf}
use Rattle.hub_glob.specs.declared.piece.Part.{Part}
use Rattle.hub_glob.specs.declared.piece.Part.TheVariants.{One, Brace}
use Rattle.hub_glob.specs.declared.path_spec.Kind.{Kind}
use Rattle.hub_glob.specs.declared.path_spec.Kind.TheVariants as kind
use Rattle.hub_glob.specs.Specification.{Specification}

-- The ways to cut a text in two.
abbrev pub splits : List ℕ → List (List ℕ × List ℕ)
splits [] = ([], []) ∷ []
splits (c ∷ t) = ([], c ∷ t) ∷ map (λ s. (c ∷ s.0, s.1)) (splits t)

-- Which texts are matched, where the first argument says whether the text begins at the start of a
-- component.
abbrev pub Texts : Type 0
Texts = Bool → List ℕ → Bool

-- The texts that begin with a character which passes, and go on as `rest` says. Only `/` starts a
-- component.
abbrev pub begins : (ℕ → Bool) → Texts → Texts
begins passes rest first [] = false
begins passes rest first (c ∷ t) = passes c && rest (c == 47) t

-- What `*` takes: no `/`, and no `.` at the start of a component.
abbrev pub is_run : Bool → List ℕ → Bool
is_run first u = list_all (λ c. not (c == 47)) u && not (first && slice_index u 0 == 46)

-- The texts that a piece begins, and that go on as `rest` says.
abbrev pub piece : Piece → Texts → Texts
piece (Lit c) rest = begins (λ d. d == c) rest
piece Any rest = begins (λ d. not (d == 47)) rest
piece (OneOf cs) rest = begins (λ d. list_any (λ c. c == d) cs) rest
piece Run rest =
    λ first t. list_any (λ s. is_run first s.0 && rest (first && length s.0 == 0) s.1) (splits t)

abbrev pub pieces : List Piece → Texts → Texts
pieces [] rest = rest
pieces (p ∷ ps) rest = piece p (pieces ps rest)

-- The empty text.
abbrev pub no_more : Texts
no_more first t = length t == 0

-- The texts that a pattern matches. A brace stands for any one of its choices.
abbrev pub glob : List Part → Texts
glob [] = no_more
glob (One p ∷ ps) = piece p (glob ps)
glob (Brace choices ∷ ps) = λ first t. list_any (λ c. pieces c (glob ps) first t) choices

-- The lists of pieces that a pattern stands for: one choice of each brace, the leftmost brace
-- varying slowest.
abbrev pub choices : List Part → List (List Piece)
choices [] = [] ∷ []
choices (One p ∷ ps) = map (λ c. p ∷ c) (choices ps)
choices (Brace cs ∷ ps) = flat_map (λ c. map (λ d. c ++ d) (choices ps)) cs

abbrev pub by_kind : Kind → List Part → Path → Bool
by_kind kind.Name pattern p = glob pattern true (last_name p)
by_kind kind.Path pattern p = glob pattern true (text_of p)
by_kind kind.BelowPath pattern p = list_any (λ q. glob pattern true (text_of q)) (prefixes p)

-- A specification matches a path by its last name, by its whole text, or by the text of some path
-- over it. Nothing matches the empty path.
unfoldable pub matches : Specification → Path → Bool
matches s p = not (length p == 0) && by_kind s.kind s.pattern p

-- One of the specifications matches the path.
abbrev pub any_matches : List Specification → Path → Bool
any_matches ss p = list_any (λ s. matches s p) ss

-- One of the choices of a pattern matches the text, where the second argument says whether the text
-- begins at the start of a component.
abbrev pub any_choice_matches : List Part → Bool → List ℕ → Bool
any_choice_matches ps first t = list_any (λ c. pieces c no_more first t) (choices ps)
