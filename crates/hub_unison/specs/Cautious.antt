-- What makes a reading of a profile cautious.
use Rattle.std.specs.Prelude.{◌≡◌, Bool, true, not, ◌&&◌, ◌||◌, List, [], nat_lt, length}
use Rattle.std.specs.List.{list_any, list_all}
use Rattle.hub_path.specs.Path.{Path, is_over}
use Rattle.hub_glob.specs.Specification.{Specification}
use Rattle.hub_path.specs.declared.side.Side.{Side}
use Rattle.hub_profile.specs.declared.bars.Bars.{Bars}
use Rattle.hub_profile.specs.declared.partial.Partial.{Partial}
use Rattle.hub_profile.specs.Parts.{Parts}
use Rattle.hub_glob.specs.Glob.{any_matches, matches}
use Rattle.hub_unison.specs.Matching.{spec_surely, spec_perhaps}
use Rattle.hub_unison.specs.UnisonReach.{is_starred}

-- What some of the specifications match for certain, or what they may match.
abbrev pub any_surely : List Specification → Path → Bool
any_surely ss q = list_any (λ s. spec_surely s q) ss

abbrev pub any_perhaps : List Specification → Path → Bool
any_perhaps ss q = list_any (λ s. spec_perhaps s q) ss

-- What the new `ignore` lines match, the old ones match for certain, or the new `ignorenot` lines
-- match.
abbrev pub IgnoresLess : List Specification → List Specification → List Specification → Type 0
IgnoresLess old new spared =
    (q : Path) → any_matches new q ≡ true → (any_surely old q || any_matches spared q) ≡ true

-- What the old `ignorenot` lines may match, the new ones match.
abbrev pub SparesMore : List Specification → List Specification → Type 0
SparesMore old new = (q : Path) → any_perhaps old q ≡ true → any_matches new q ≡ true

-- What the new partial bars forbid, the old ones forbid for certain, whatever is asked of their
-- sides and changes.
abbrev pub BarsLess : List Partial → List Partial → Type 0
BarsLess old new =
    (test : Side → Bars → Bool) (q : Path)
    → list_any (λ b. test b.side b.bars && matches b.spec q) new ≡ true
    → list_any (λ b. test b.side b.bars && spec_surely b.spec q) old ≡ true

-- Some kept value is starred.
abbrev pub has_star : Parts → Bool
has_star P = list_any is_starred P.paths

-- A profile with other patterns and partial bars.
abbrev pub with_patterns : Parts → List Specification → List Specification → List Partial → Parts
with_patterns P ignore ignorenot partial =
    record P { ignore = ignore; ignorenot = ignorenot; partial = partial }

-- A path is over all that a kept value stands for.
abbrev pub covers_value : Path → Path → Bool
covers_value top s = is_over top s && (not (is_starred s) || nat_lt (length top) (length s))

-- One of some paths is, for each kept value.
abbrev pub cover : List Path → List Path → Bool
cover tops paths = list_all (λ s. list_any (λ top. covers_value top s) tops) paths

-- A profile with these kept values, and nothing ignored.
abbrev pub with_tops : Parts → List Path → List Partial → Parts
with_tops P tops partial =
    record P { paths = tops; ignore = []; ignorenot = []; partial = partial }
