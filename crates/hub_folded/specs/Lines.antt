-- The lines of profiles, folded: a reading that comes before all others.
use Rattle.std.specs.Prelude.{ℕ, ◌+◌, ◌≤◌, Bool, true, false, not, ◌&&◌, ◌||◌, ◌==◌, nat_lt, List, [], ◌∷◌, ◌++◌, length, map, codes, Option, Some, None, if◌then◌else◌}
use Rattle.std.specs.List.{list_any, list_all, filter, flat_map}
use Rattle.hub_path.specs.Path.{Path, is_over}
use Rattle.hub_glob.specs.declared.piece.Piece.{Piece}
use Rattle.hub_glob.specs.declared.piece.Piece.TheVariants.{Lit, Any, Run, OneOf}
use Rattle.hub_glob.specs.declared.piece.Part.{Part}
use Rattle.hub_glob.specs.declared.piece.Part.TheVariants.{One, Brace}
use Rattle.hub_glob.specs.contracts.path_spec.PathSpecPartialEq.TheImpl as tested
use Rattle.hub_glob.specs.Glob.{choices}
use Rattle.hub_glob.specs.Specification.{Specification}
use Rattle.hub_glob.specs.Writing.{spec_text}
use Rattle.hub_profile.specs.declared.draft.TheConstants.{PATTERN_LINES}
use Rattle.hub_profile.specs.Facts.{are_kept}
use Rattle.hub_profile.specs.Parts.{Parts, some_passes}
use Rattle.hub_profile.specs.declared.partial.Partial.{Partial}
use Rattle.hub_profile.specs.declared.rule.Rule.{Rule}
use Rattle.hub_unison.specs.Lines.{LineText, line_spec}
use Rattle.hub_unison.specs.Matching.{is_odd}
use Rattle.hub_unison.specs.ReadingOf.{cut_value, topmost}
use Rattle.hub_folded.specs.declared.member.Member.{Member}
use Rattle.hub_folded.specs.Fold.{Folding, fold_name, fold_path, is_bare, is_upper, knows, knows_path}

-- Unison folds the text of a pattern, and then matches it with the folded path (observed with
-- Unison 2.52.1). So a literal folds to one or more, and a set folds member by member.
abbrev pub fold_piece : Folding → Piece → List Piece
fold_piece F (Lit c) = map (λ d. Lit d) (F.to c)
fold_piece F Any = Any ∷ []
fold_piece F Run = Run ∷ []
fold_piece F (OneOf cs) = OneOf (flat_map F.to cs) ∷ []

abbrev pub fold_pieces : Folding → List Piece → List Piece
fold_pieces F ps = flat_map (fold_piece F) ps

abbrev pub fold_part : Folding → Part → List Part
fold_part F (One p) = map (λ q. One q) (fold_piece F p)
fold_part F (Brace cs) = Brace (map (fold_pieces F) cs) ∷ []

abbrev pub fold_spec : Folding → Specification → Specification
fold_spec F s = record s { pattern = flat_map (fold_part F) s.pattern }

-- It is known what a set folds to if it has characters of ASCII alone, none that Unison may read in
-- another way, and no range from `?` or `@` to a capital letter: folded, that takes more than the
-- folded members (Unison 2.52.1 takes `[@-B]` for `[@-b]`).
abbrev pub knows_set : Folding → List ℕ → Bool
knows_set F cs =
    list_all (λ c. nat_lt c 128 && F.is_known c && not (is_odd c)) cs
    && not (list_any is_upper cs && list_any (λ c. c == 63 || c == 64) cs)

-- The same of pieces. The flag says whether a bare letter comes before them.
abbrev pub knows_pieces : Folding → Bool → List Piece → Bool
knows_pieces F bare [] = true
knows_pieces F bare (Lit c ∷ ps) =
    F.is_known c && (not (F.is_mark c) || bare) && knows_pieces F (is_bare F c) ps
knows_pieces F bare (Any ∷ ps) = knows_pieces F false ps
knows_pieces F bare (Run ∷ ps) = knows_pieces F false ps
knows_pieces F bare (OneOf cs ∷ ps) = knows_set F cs && knows_pieces F false ps

abbrev pub knows_spec : Folding → Specification → Bool
knows_spec F s = list_all (knows_pieces F false) (choices s.pattern)

-- Whether a line with the specification's own text spells it. That may have too many characters, as
-- a folded pattern may, or end with a blank.
abbrev pub line_of : Specification → LineText
line_of s = codes "ignore = " ++ spec_text s

abbrev pub is_spelled : Specification → Bool
is_spelled s = some_passes (λ t. tested.eq-value.it t s) (line_spec (line_of s))

abbrev pub if_spelled : Specification → Option Specification
if_spelled s = if is_spelled s then Some s else None

-- It is known what a line with this specification folds to, and a line can say it.
abbrev pub knows_line : Folding → Specification → Bool
knows_line F s = knows_spec F s && is_spelled (fold_spec F s)

abbrev pub fold_bar : Folding → Partial → Partial
fold_bar F b = record b { spec = fold_spec F b.spec }

abbrev pub fold_rule : Folding → Rule → Rule
fold_rule F R = record R { spec = fold_spec F R.spec }

-- A pattern that matches a known path matches it when both are folded, if it has no `?` and no set
-- past ASCII. A letter with a mark may be one character, and is two when it is folded: these a `?`
-- doesn't match.
abbrev pub is_foldable_piece : Piece → Bool
is_foldable_piece (Lit c) = true
is_foldable_piece Any = false
is_foldable_piece Run = true
is_foldable_piece (OneOf cs) = list_all (λ c. nat_lt c 128) cs

abbrev pub is_foldable_part : Part → Bool
is_foldable_part (One p) = is_foldable_piece p
is_foldable_part (Brace cs) = list_all (λ c. list_all is_foldable_piece c) cs

abbrev pub is_foldable : Specification → Bool
is_foldable s = list_all is_foldable_part s.pattern

-- The rules that a set with folded names may have: a rule with an unknown character would hold at
-- no known path.
abbrev pub knows_rule : Folding → Rule → Bool
knows_rule F R = knows_spec F R.spec && is_foldable R.spec

abbrev pub know_rules : Folding → List Rule → Bool
know_rules F Rs = list_all (knows_rule F) Rs

-- The bars on paths that stay, and the `ignore` lines.
abbrev pub folded_bars : Folding → List Partial → List Partial
folded_bars F bs = map (fold_bar F) (filter (λ b. knows_line F b.spec) bs)

abbrev pub folded_specs : Folding → List Specification → List Specification
folded_specs F ss = map (fold_spec F) (filter (knows_line F) ss)

-- A path over all that a kept value stands for: its first known names, without a last `*`.
abbrev pub known_part : Folding → Path → Path
known_part F [] = []
known_part F (n ∷ s) = if knows F n then fold_name F n ∷ known_part F s else []

abbrev pub top_of : Folding → Path → Path
top_of F s = cut_value (known_part F (cut_value s))

-- The topmost of these paths for all kept values, or the whole replica if these can't be kept
-- values.
abbrev pub are_over : List Path → List Path → Bool
are_over tops ts = list_all (λ t. list_any (λ top. is_over top t) tops) ts

abbrev pub highest : List Path → List Path
highest ts = if are_kept (topmost ts) && are_over (topmost ts) ts then topmost ts else [] ∷ []

abbrev pub folded_tops : Folding → List Path → List Path
folded_tops F paths = highest (map (top_of F) paths)

-- All kept values are known, and may be kept values when they are folded.
abbrev pub keeps_values : Folding → List Path → Bool
keeps_values F paths = list_all (knows_path F) paths && are_kept (map (fold_path F) paths)

-- Something may be ignored if all kept values stay, and each `ignorenot` line is known. Unison
-- doesn't look whether what is above a kept value is ignored (observed with Unison 2.52.1). So
-- below a kept value that isn't known an `ignore` line may not count that would count below its
-- known part.
abbrev pub may_ignore : Folding → Parts → Bool
may_ignore F P = keeps_values F P.paths && list_all (knows_line F) P.ignorenot

abbrev pub folded_paths : Folding → List Path → List Path
folded_paths F paths =
    if keeps_values F paths then map (fold_path F) paths else folded_tops F paths

abbrev pub folded_ignore : Folding → Parts → List Specification
folded_ignore F P = if may_ignore F P then folded_specs F P.ignore else []

abbrev pub folded_ignorenot : Folding → Parts → List Specification
folded_ignorenot F P = if may_ignore F P then map (fold_spec F) P.ignorenot else []

-- The folded lines of a profile of a host whose names fold.
abbrev pub folded : Folding → Parts → Parts
folded F P =
    record P {
      paths = folded_paths F P.paths;
      ignore = folded_ignore F P;
      ignorenot = folded_ignorenot F P;
      partial = folded_bars F P.partial;
    }

-- The folded lines of another profile of the same set. Each path of it is one of several spellings
-- of a folded path, so nothing is ignored, and there are no bars on paths.
abbrev pub spread : Folding → Parts → Parts
spread F P = record P { paths = folded_tops F P.paths; ignore = []; ignorenot = []; partial = [] }

abbrev pub folded_member : Folding → Member → Parts
folded_member F M = if M.folds then folded F M.parts else spread F M.parts

-- The profile has no more `ignore` and `ignorenot` lines than may be read.
abbrev pub IsWithinLines : Parts → Type 0
IsWithinLines P = length P.ignore + length P.ignorenot ≤ PATTERN_LINES

-- The profiles of a set, folded if some host's names fold; and the rules.
abbrev pub some_fold : List Member → Bool
some_fold Ms = list_any (λ M. M.folds) Ms

abbrev pub folded_set : Folding → List Member → List Parts
folded_set F Ms = if some_fold Ms then map (folded_member F) Ms else map (λ M. M.parts) Ms

abbrev pub folded_rules : Folding → List Member → List Rule → List Rule
folded_rules F Ms Rs = if some_fold Ms then map (fold_rule F) Rs else Rs
