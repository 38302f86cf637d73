-- Worked values of folded names, folded lines and what Unison reaches by them.
use Rattle.std.specs.Prelude.{⊤, ◌≡◌, Bool, true, false, List, ℕ, [], ◌∷◌, ◌++◌, Option, Some, None, map, refl, codes, if◌then◌else◌}
use Rattle.std.proofs.Common.{inl}
use Rattle.hub_path.specs.Path.{Name, Path, path_of}
use Rattle.hub_glob.specs.Glob.{matches}
use Rattle.hub_glob.specs.Specification.{Specification}
use Rattle.hub_glob.specs.declared.path_spec.Kind.{Kind}
use Rattle.hub_glob.specs.declared.path_spec.Kind.TheVariants as kind
use Rattle.hub_glob.specs.declared.piece.Part.{Part}
use Rattle.hub_glob.specs.declared.piece.Part.TheVariants.{One}
use Rattle.hub_glob.specs.declared.piece.Piece.TheVariants.{Lit, Any, Run}
use Rattle.hub_profile.specs.Parts.{Parts}
use Rattle.hub_profile.specs.declared.rule.Rule.{Rule}
use Rattle.hub_profile.specs.declared.verb.Verb.TheVariants.{Delete}
use Rattle.hub_profile.specs.examples.Profiles.{hub, s1, s2, between}
use Rattle.hub_reach.specs.Reach.{reach}
use Rattle.hub_reach.specs.Safe.{Clash}
use Rattle.hub_unison.specs.Lines.{LineText, line_spec}
use Rattle.hub_unison.specs.Matching.{line_matches}
use Rattle.hub_unison.specs.UnisonReach.{reach_by}
use Rattle.hub_folded.specs.Fold.{Folding, fold_name, fold_path, knows, latin}
use Rattle.hub_folded.specs.Ranges.{ranges}
use Rattle.hub_folded.specs.Rows.{rows}
use Rattle.hub_folded.specs.Row.{row}
use Rattle.hub_folded.specs.Table.{folding_by, unicode}
use Rattle.hub_folded.specs.declared.member.Member.{Member}
use Rattle.hub_folded.specs.Lines.{fold_spec, folded, folded_set, is_foldable, knows_line, knows_set, line_of, spread}
use Rattle.hub_folded.specs.Rules.{first_unknown}
use Rattle.hub_folded.specs.InUnison.{FoldedClash, Lined, Norm, norm_of, norm_path, reach_at}

-- What these examples compute.
computed : ⊤
unfolding reach reach_by matches
computed = tt

-- Names. Docs, docs and DOCS are one.
case : map (fold_name unicode) (codes "Docs" ∷ codes "docs" ∷ codes "DOCS" ∷ [])
    ≡ codes "docs" ∷ codes "docs" ∷ codes "docs" ∷ []
case = refl

-- É in one character, and as E with a mark, and é, in both forms
accents : map (fold_name unicode)
    ((0xC9 ∷ []) ∷ (69 ∷ 0x301 ∷ []) ∷ (0xE9 ∷ []) ∷ (101 ∷ 0x301 ∷ []) ∷ [])
    ≡ (101 ∷ 0x301 ∷ []) ∷ (101 ∷ 0x301 ∷ []) ∷ (101 ∷ 0x301 ∷ []) ∷ (101 ∷ 0x301 ∷ []) ∷ []
accents = refl

-- ς, σ and Σ; İ is no i; ß is no ss
others : map (fold_name unicode)
    ((0x3C2 ∷ []) ∷ (0x3C3 ∷ []) ∷ (0x3A3 ∷ []) ∷ (0x130 ∷ []) ∷ (0xDF ∷ []) ∷ [])
    ≡ (0x3C3 ∷ []) ∷ (0x3C3 ∷ []) ∷ (0x3C3 ∷ []) ∷ (105 ∷ 0x307 ∷ []) ∷ (0xDF ∷ []) ∷ []
others = refl

-- in Latin-1 mode A to Z alone
by_latin : map (fold_name latin) (codes "Docs" ∷ (0xC9 ∷ []) ∷ (0x3C2 ∷ []) ∷ [])
    ≡ codes "docs" ∷ (0xC9 ∷ []) ∷ (0x3C2 ∷ []) ∷ []
by_latin = refl

-- What is known: É, e with a mark, Ế with its two, Han, kana. Not É with a second mark (their order
-- might change), a mark at the start, a joiner, Hangul, which Unison takes apart.
known : map (knows unicode)
    ((0xC9 ∷ []) ∷ (101 ∷ 0x301 ∷ []) ∷ (0x1EBE ∷ []) ∷ (0x4E2D ∷ 0x6587 ∷ [])
    ∷ (0x304B ∷ 0x304C ∷ []) ∷ (0xC9 ∷ 0x327 ∷ []) ∷ (101 ∷ 0x301 ∷ 0x327 ∷ [])
    ∷ (0x301 ∷ []) ∷ (97 ∷ 0x200D ∷ [])
    ∷ (0xAC00 ∷ []) ∷ [])
    ≡ true ∷ true ∷ true ∷ true ∷ true ∷ false ∷ false ∷ false ∷ false ∷ false ∷ []
known = refl

-- A table with ς on itself takes two names for two that Unison takes as one.
abbrev no_sigma : Folding
no_sigma = folding_by (row 0x3C2 (0x3C2 ∷ []) ∷ rows) ranges

wrong_table : map (fold_name no_sigma) ((0x3C2 ∷ []) ∷ (0x3A3 ∷ []) ∷ [])
    ≡ (0x3C2 ∷ []) ∷ (0x3C3 ∷ []) ∷ []
wrong_table = refl

-- Sets: [A-C]; not [é], [@-B] (Unison takes it for [@-b]) and [Z-a].
sets : map (knows_set unicode)
    ((65 ∷ 66 ∷ 67 ∷ []) ∷ (0xE9 ∷ []) ∷ (64 ∷ 65 ∷ 66 ∷ [])
    ∷ (90 ∷ 91 ∷ 92 ∷ 93 ∷ 94 ∷ 95 ∷ 96 ∷ 97 ∷ []) ∷ [])
    ≡ true ∷ false ∷ false ∷ false ∷ []
sets = refl

-- Lines.
abbrev text : Kind → List ℕ → Specification
text k t = record { kind = k; pattern = map (λ c. One (Lit c)) t }

abbrev ignoring : Parts → List Specification → Parts
ignoring P ss = record P { ignore = ss }

abbrev keeping : Parts → List Path → List Specification → Parts
keeping P paths ss = record P { paths = paths; ignore = ss }

-- A profile written in its specifications' own lines, on a host whose names fold, and on another
-- one.
abbrev lined : Bool → Parts → Lined
lined b P =
    record {
      folds = b;
      written = record {
        parts = P;
        ignore = map line_of P.ignore;
        ignorenot = map line_of P.ignorenot;
        partial = [];
      };
    }

abbrev folds : Parts → Lined
folds P = lined true P

abbrev stays : Parts → Lined
stays P = lined false P

abbrev as_unison : Norm
as_unison = norm_of unicode

-- Docs of one profile and docs of another one, between the hub and two other roots.
abbrev one : Parts
one = between (codes "one") hub s1 (path_of (codes "Docs"))

abbrev two : Parts
two = between (codes "two") hub s2 (path_of (codes "docs"))

-- For Unison they clash at Docs and DOCS, ..
they_clash : FoldedClash as_unison line_matches line_matches (folds one) (folds two)
unfolding computed
they_clash =
    inl (hub, refl, refl, (path_of (codes "DOCS"), path_of (codes "doCs/x"), refl, refl, refl))

-- .. so do the folded lines, in both modes. As they stand, neither reaches the other's.
folded_lines_clash : Clash (folded unicode one) (folded unicode two)
unfolding computed
folded_lines_clash =
    inl (hub, refl, refl, (path_of (codes "docs"), path_of (codes "docs"), refl, refl, refl))

folded_lines_clash_by_latin : Clash (folded latin one) (folded latin two)
unfolding computed
folded_lines_clash_by_latin =
    inl (hub, refl, refl, (path_of (codes "docs"), path_of (codes "docs"), refl, refl, refl))

as_they_stand : map (λ P. reach P (path_of (codes "docs"))) (one ∷ two ∷ []) ≡ false ∷ true ∷ []
unfolding computed
as_they_stand = refl

-- Without folded names the set is as it was.
abbrev plain : Parts → Member
plain P = record { folds = false; parts = P }

as_it_was : folded_set unicode (plain one ∷ plain two ∷ []) ≡ one ∷ two ∷ []
as_it_was = refl

-- A pattern: DOCS*É is docs*e with a mark.
abbrev letters : List ℕ → List Part
letters t = map (λ c. One (Lit c)) t

abbrev starred : Specification
starred =
    record { kind = kind.Name; pattern = letters (codes "DOCS") ++ One Run ∷ letters (0xC9 ∷ []) }

a_pattern : (fold_spec unicode starred).pattern
    ≡ letters (codes "docs") ++ One Run ∷ letters (101 ∷ 0x301 ∷ [])
a_pattern = refl

-- A line can say it. A pattern that ends with a blank it can't say.
known_lines : map (knows_line unicode)
    (text kind.Name (0xC9 ∷ []) ∷ text kind.Name (codes "a ") ∷ []) ≡ true ∷ false ∷ []
known_lines = refl

-- An ignore line whose character isn't known, here of Hangul, is left out.
abbrev hangul : Name
hangul = 0xAC00 ∷ []

abbrev hangul_spec : Specification
hangul_spec = text kind.Name hangul

left_out : (folded unicode (ignoring one (text kind.Name (codes "A") ∷ hangul_spec ∷ []))).ignore
    ≡ text kind.Name (codes "a") ∷ []
left_out = refl

-- Wrong variant: it is kept. Unison may make of it what it likes, ..
abbrev other_line : Option Specification → LineText
other_line None = codes "ignore = Name q"
other_line (Some s) =
    if knows_line unicode s then line_of (fold_spec unicode s) else codes "ignore = Name q"

abbrev other : Norm
other = record { name = fold_name unicode; line = λ l. other_line (line_spec l) }

abbrev ignoring_hangul : Parts
ignoring_hangul = ignoring one (hangul_spec ∷ [])

unison_reaches_it : reach_at other line_matches (folds ignoring_hangul)
    (path_of (codes "docs") ++ hangul ∷ []) ≡ true
unfolding computed
unison_reaches_it = refl

-- .. and by the line as it is, the path wouldn't be reached.
the_wrong_reading_doesn't : reach (keeping one (path_of (codes "docs") ∷ []) (hangul_spec ∷ []))
    (path_of (codes "docs") ++ hangul ∷ []) ≡ false
unfolding computed
the_wrong_reading_doesn't = refl

-- A kept value with a name that isn't known: its known part is kept, and nothing is ignored.
abbrev below_docs : Parts
below_docs =
    record one {
      paths = (codes "Docs" ∷ hangul ∷ []) ∷ [];
      ignore = text kind.Name (codes "docs") ∷ [];
    }

tops : (folded unicode below_docs).paths ≡ path_of (codes "docs") ∷ []
tops = refl

nothing_ignored : (folded unicode below_docs).ignore ≡ []
nothing_ignored = refl

-- Wrong variant: the known part is kept, and so are the ignore lines. An ignore line above a kept
-- value doesn't count for Unison, and it counts at the known part.
abbrev in_docs : Path
in_docs = codes "DOCS" ∷ hangul ∷ []

unison_reaches_below : reach_at as_unison line_matches (folds below_docs) in_docs ≡ true
unfolding computed
unison_reaches_below = refl

the_wrong_part_doesn't : reach (keeping one (path_of (codes "docs") ∷ []) below_docs.ignore)
    (norm_path as_unison in_docs) ≡ false
unfolding computed
the_wrong_part_doesn't = refl

the_reading_does : reach (folded unicode below_docs) (norm_path as_unison in_docs) ≡ true
unfolding computed
the_reading_does = refl

-- Two kept values, of which one is over the other when they are folded: the higher one is kept, and
-- nothing is ignored. Wrong variant: with the ignore line the lower one wouldn't be reached.
abbrev nested : Parts
nested =
    record one {
      paths = path_of (codes "Docs") ∷ path_of (codes "docs/X") ∷ [];
      ignore = text kind.Name (codes "docs") ∷ [];
    }

nested_tops : (folded unicode nested).paths ≡ path_of (codes "docs") ∷ []
nested_tops = refl

unison_reaches_nested : reach_at as_unison line_matches (folds nested)
    (path_of (codes "docs/x")) ≡ true
unfolding computed
unison_reaches_nested = refl

the_wrong_top_doesn't : reach (keeping one (path_of (codes "docs") ∷ []) nested.ignore)
    (path_of (codes "docs/x")) ≡ false
unfolding computed
the_wrong_top_doesn't = refl

-- Wrong variant: a profile of a host whose names don't fold, read as if they did. It ignores docs,
-- and not Docs.
abbrev but_docs : Parts
but_docs = record one { paths = [] ∷ []; ignore = text kind.Name (codes "docs") ∷ [] }

it_reaches_Docs : reach_at as_unison line_matches (stays but_docs) (path_of (codes "Docs")) ≡ true
unfolding computed
it_reaches_Docs = refl

read_as_folded_it_doesn't : reach (folded unicode but_docs) (path_of (codes "docs")) ≡ false
unfolding computed
read_as_folded_it_doesn't = refl

spread_it_does : reach (spread unicode but_docs) (path_of (codes "docs")) ≡ true
unfolding computed
spread_it_does = refl

-- A rule with `?`: its pattern matches é, and folded it doesn't match the folded é. So a set with
-- folded names can't have it.
abbrev any_name : Specification
any_name = record { kind = kind.Name; pattern = One Any ∷ [] }

before_folding : matches any_name ((0xE9 ∷ []) ∷ []) ≡ true
unfolding computed
before_folding = refl

after_folding : matches (fold_spec unicode any_name) (fold_path unicode ((0xE9 ∷ []) ∷ [])) ≡ false
unfolding computed
after_folding = refl

no_rule : is_foldable any_name ≡ false
no_rule = refl

-- Such a rule is named by its number.
abbrev keeping_at_hub : Specification → Rule
keeping_at_hub s = record { root = hub; verb = Delete; spec = s }

second_named : first_unknown unicode
    (keeping_at_hub (text kind.Name (codes "A")) ∷ keeping_at_hub any_name ∷ []) ≡ Some 1
second_named = refl

none_named : first_unknown unicode (keeping_at_hub (text kind.Name (codes "A")) ∷ []) ≡ None
none_named = refl
