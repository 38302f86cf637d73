-- Which texts Unison's patterns match, as far as was observed.
use Rattle.std.specs.Prelude.{IsTrue, ℕ, Bool, true, false, not, ◌&&◌, ◌||◌, ◌==◌, nat_lt, List, [], ◌∷◌, ◌++◌, map, length, slice_index, if◌then◌else◌, Option, Some, None}
use Rattle.std.specs.List.{list_any, list_all}
use Rattle.std.specs.Char.{is_ascii_control}
use Rattle.hub_glob.specs.declared.piece.Piece.{Piece}
use Rattle.hub_glob.specs.declared.piece.Part.{Part}
use Rattle.hub_glob.specs.declared.path_spec.Kind.{Kind}
use Rattle.hub_glob.specs.Specification.{Specification}
use Rattle.hub_glob.specs.declared.piece.Piece.TheVariants.{Lit, Any, Run, OneOf}
use Rattle.hub_glob.specs.declared.piece.Part.TheVariants.{Brace}
use Rattle.hub_glob.specs.declared.path_spec.Kind.TheVariants as kind
use Rattle.hub_path.specs.Path.{Path, text_of, last_name, prefixes}
use Rattle.hub_glob.specs.Glob.{Texts, begins, piece, choices, no_more, matches}
use Rattle.hub_unison.specs.Lines.{LineText, line_spec}

-- The texts with no dot at the start of a component here.
abbrev pub undotted : Texts → Texts
undotted rest first t = not (first && slice_index t 0 == 46) && rest first t

-- What one piece matches for certain, and then the rest: `?`, a set and `*` match no dot at the
-- start of a component, and `*` doesn't even stand before one there. `?` and a set match ASCII
-- characters; what they match of others isn't known, since they match bytes.
abbrev pub sure_piece : Piece → Texts → Texts
sure_piece (Lit c) rest = begins (λ d. d == c) rest
sure_piece Any rest = undotted (begins (λ d. nat_lt d 128 && not (d == 47)) rest)
sure_piece (OneOf cs) rest = undotted (begins (λ d. nat_lt d 128 && list_any (λ c. c == d) cs) rest)
sure_piece Run rest = undotted (piece Run rest)

abbrev pub sure_pieces : List Piece → Texts → Texts
sure_pieces [] rest = rest
sure_pieces (p ∷ ps) rest = sure_piece p (sure_pieces ps rest)

-- Unison cuts a pattern at ` -> `, and drops each CR at its ends. So what it makes of a `>` and of a
-- control character isn't known. It reads braces before brackets, so of a set with one of these
-- characters it isn't known either: `, [ \ ] { }`.
abbrev pub is_unknown : ℕ → Bool
is_unknown c = c == 62 || is_ascii_control c

abbrev pub is_odd : ℕ → Bool
is_odd c = is_unknown c || c == 44 || c == 91 || c == 92 || c == 93 || c == 123 || c == 125

abbrev pub is_known : Piece → Bool
is_known (Lit c) = not (is_unknown c)
is_known Any = true
is_known Run = true
is_known (OneOf cs) = not (list_any is_odd cs)

-- Whether a pattern is made of pieces that are read alike, and of which it is known what they match
-- at most: what hubsync has them match.
abbrev pub is_simple_member : ℕ → Bool
is_simple_member c = nat_lt c 128 && not (c == 47) && not (is_odd c)

abbrev pub is_simple : Piece → Bool
is_simple (Lit c) = not (is_unknown c)
is_simple Any = false
is_simple Run = true
is_simple (OneOf cs) = list_all is_simple_member cs

-- Whether each choice of a pattern is simple, or known.
abbrev pub all_simple : List Part → Bool
all_simple ps = list_all (λ c. list_all is_simple c) (choices ps)

abbrev pub all_known : List Part → Bool
all_known ps = list_all (λ c. list_all is_known c) (choices ps)

-- The texts that a pattern matches for certain.
abbrev pub sure_text : List Part → List ℕ → Bool
sure_text ps t = all_known ps && list_any (λ c. sure_pieces c no_more true t) (choices ps)

-- The paths of which a test passes the text that the kind looks at.
abbrev pub of_kind : Kind → (List ℕ → Bool) → Path → Bool
of_kind kind.Name test p = test (last_name p)
of_kind kind.Path test p = test (text_of p)
of_kind kind.BelowPath test p = list_any (λ q. test (text_of q)) (prefixes p)

-- The paths that Unison matches for certain by a line with this specification.
unfoldable pub spec_surely : Specification → Path → Bool
spec_surely s p = not (length p == 0) && of_kind s.kind (sure_text s.pattern) p

-- A `*` in place of a piece, unless it is known which texts this matches at most. A `?` and a set match
-- one byte, so together with others they match characters, but no dot at the start of a component.
abbrev pub star_for : Piece → Piece
star_for p = if is_simple p then p else Run

-- The specification that also matches what hubsync matches with such stars.
abbrev pub starred : Specification → Specification
starred s = record {
  kind = s.kind;
  pattern = Brace (choices s.pattern ++ map (map star_for) (choices s.pattern)) ∷ [];
}

abbrev pub widened : Specification → Specification
widened s = if all_simple s.pattern then s else starred s

-- The paths that it may match: of a simple pattern those that hubsync matches, of one whose pieces are
-- read alike those that it matches with stars, too, and of others any. (By 1,854 patterns with `?` and
-- sets, Unison 2.52.1 matched 11,957 paths, and none that isn't matched so.)
unfoldable pub spec_perhaps : Specification → Path → Bool
spec_perhaps s p = not (all_known s.pattern) || matches (widened s) p

-- The same of the text of a line, which Unison trims, cuts and reads in its own way: it drops each CR at
-- the ends of a value, say. By a line that spells no specification nothing is matched for certain, and
-- anything may be. A line that bars changes on some paths is one whose arrow Unison sees, with a space
-- on both sides; no other one counts.
abbrev pub surely_by : Option Specification → Path → Bool
surely_by None p = false
surely_by (Some s) p = spec_surely s p

abbrev pub perhaps_by : Option Specification → Path → Bool
perhaps_by None p = true
perhaps_by (Some s) p = spec_perhaps s p

abbrev pub surely : LineText → Path → Bool
surely l p = surely_by (line_spec l) p

abbrev pub perhaps : LineText → Path → Bool
perhaps l p = perhaps_by (line_spec l) p

-- What Unison matches in a run is one of these: a path, by the text of a line.
abbrev pub Matching : Type 0
Matching = LineText → Path → Bool

pub record IsMatching (m : Matching) : Type 0 where
  pub least : (l : LineText) (p : Path) → IsTrue (surely l p) → IsTrue (m l p)
  pub most : (l : LineText) (p : Path) → IsTrue (m l p) → IsTrue (perhaps l p)

-- What hubsync matches by a line: nothing, if it spells no specification.
abbrev pub matches_by : Option Specification → Path → Bool
matches_by None p = false
matches_by (Some s) p = matches s p

abbrev pub line_matches : Matching
line_matches l p = matches_by (line_spec l) p
