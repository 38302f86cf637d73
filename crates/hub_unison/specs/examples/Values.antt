-- Worked examples.
use Rattle.std.specs.Prelude.{⊤, ◌≡◌, ℕ, true, false, not, ◌==◌, List, [], ◌∷◌, length, None, codes, refl}
use Rattle.std.proofs.Math.Bool.{and-false}
use Rattle.hub_path.specs.Path.{Path, path_of}
use Rattle.hub_glob.specs.Glob.{matches}
use Rattle.hub_profile.specs.Parts.{Parts}
use Rattle.hub_unison.specs.Lines.{LineText, ignore_names, ignorenot_names, partial_names, line_spec}
use Rattle.hub_unison.specs.Matching.{line_matches, perhaps, spec_perhaps, spec_surely, surely}
use Rattle.hub_unison.specs.Shared.{shared_pairs}
use Rattle.hub_unison.specs.Written.{lines_setting}

abbrev docs : Path
docs = path_of (codes "docs")

-- What these examples compute.
computed : ⊤
unfolding matches spec_surely spec_perhaps
computed = tt

-- A line that hubsync and Unison read alike: a path is matched for certain where it may be.
abbrev plain : LineText
plain = codes "ignore = Path docs"

plain_surely : surely plain docs ≡ true
unfolding computed
plain_surely = refl

plain_perhaps : perhaps plain docs ≡ true
unfolding computed
plain_perhaps = refl

plain_matches : line_matches plain docs ≡ true
unfolding computed
plain_matches = refl

plain_other : perhaps plain (path_of (codes "doc")) ≡ false
unfolding computed
plain_other = refl

-- The blanks around a line and its value, and one CR at its end, say nothing.
with_blanks : surely (codes "\tignore =  Path docs \r") docs ≡ true
unfolding computed
with_blanks = refl

-- A CR before the one at the end stays in the pattern: of this it is known neither that it matches
-- nothing nor that it matches something.
two_crs_perhaps : (p : Path) → perhaps (codes "ignorenot = Path docs\r\r") p ≡ true
unfolding computed
two_crs_perhaps p = refl

two_crs_surely : (p : Path) → surely (codes "ignore = Path docs\r\r") p ≡ false
unfolding computed
two_crs_surely p = and-false (not (length p == 0))

two_crs_match : line_matches (codes "ignorenot = Path docs\r\r") docs ≡ false
unfolding computed
two_crs_match = refl

-- Likewise a CR after the kind, in a brace and in a set, and a further control character.
cr_after_kind : (p : Path) → perhaps (codes "ignorenot = Path \rdocs") p ≡ true
unfolding computed
cr_after_kind p = refl

cr_in_brace : (p : Path) → perhaps (codes "ignorenot = Name {docs,x}\r\r") p ≡ true
unfolding computed
cr_in_brace p = refl

cr_in_set : (p : Path) → perhaps (codes "ignorenot = Name [\rd]ocs") p ≡ true
unfolding computed
cr_in_set p = refl

tab_within : (p : Path) → perhaps (codes "ignorenot = Name a\tb") p ≡ true
unfolding computed
tab_within p = refl

-- By a line that spells no specification nothing is matched for certain, and anything may be.
regex_spells : line_spec (codes "ignore = Regex docs") ≡ None
regex_spells = refl

regex_surely : (p : Path) → surely (codes "ignore = Regex docs") p ≡ false
regex_surely p = refl

regex_perhaps : (p : Path) → perhaps (codes "ignore = Regex docs") p ≡ true
regex_perhaps p = refl

comment_spells : line_spec (codes "# ignore = Path docs") ≡ None
comment_spells = refl

path_spells : line_spec (codes "path = docs") ≡ None
path_spells = refl

-- A bar is matched by the specification before its arrow.
bar_surely : surely (codes "nodeletionpartial = Path docs -> /srv/hub") docs ≡ true
unfolding computed
bar_surely = refl

-- The lines of a text by their names, as they stand.
abbrev text : List ℕ
text =
    codes "root = /srv/hub\n ignore=Path a\r\r\n# ignore = Path b\nignorenot = Path c\nnoupdatepartial = Path d -> /srv/hub"

ignore_lines : lines_setting ignore_names text ≡ codes " ignore=Path a\r\r" ∷ []
ignore_lines = refl

ignorenot_lines : lines_setting ignorenot_names text ≡ codes "ignorenot = Path c" ∷ []
ignorenot_lines = refl

partial_lines : lines_setting partial_names text ≡ codes "noupdatepartial = Path d -> /srv/hub" ∷ []
partial_lines = refl

-- Profiles share an archive if they have the same two roots, in either order.
abbrev of_roots : List ℕ → List ℕ → Parts
of_roots left right = record {
  name = codes "p";
  roots = path_of left ∷ path_of right ∷ [];
  paths = [] ∷ [];
  ignore = [];
  ignorenot = [];
  force = None;
  prefer = None;
  bars = [];
  partial = [];
}

pairs : shared_pairs (of_roots (codes "hub") (codes "a") ∷ of_roots (codes "hub") (codes "b")
    ∷ of_roots (codes "a") (codes "hub") ∷ of_roots (codes "hub") (codes "a") ∷ [])
    ≡ (0, 2) ∷ (0, 3) ∷ (2, 3) ∷ []
pairs = refl
