-- The text of the bundle that is written for profiles and rules.
use Rattle.std.specs.Prelude.{ℕ, Bool, false, ◌||◌, ◌==◌, nat_eq, List, [], ◌∷◌, ◌++◌, length, Option, Some, None, if◌then◌else◌, codes, encode_utf8_all}
use Rattle.std.specs.List.{ends_with, flat_map}
use Rattle.hub_path.specs.Path.{Path, path_eq, root_bytes, text_of}
use Rattle.hub_path.specs.declared.side.Side.{Side}
use Rattle.hub_path.specs.declared.side.Side.TheVariants.{Left, Right}
use Rattle.hub_glob.specs.Specification.{Specification}
use Rattle.hub_glob.specs.Writing.{spec_text}
use Rattle.hub_profile.specs.Parts.{Parts, at_side}
use Rattle.hub_profile.specs.declared.bars.Bars.{Bars}
use Rattle.hub_profile.specs.declared.partial.Partial.{Partial}
use Rattle.hub_profile.specs.declared.rule.Rule.{Rule}
use Rattle.hub_profile.specs.declared.verb.Verb.{Verb}
use Rattle.hub_profile.specs.declared.verb.Verb.TheVariants.{Create, Update, Delete}

abbrev pub ends_with_blank : List ℕ → Bool
ends_with_blank v = ends_with nat_eq v (codes " ") || ends_with nat_eq v (codes "\t")

-- The end of a line whose value is a root or a path. The reader drops a blank at the end, so a
-- slash comes behind it, which is dropped in its place.
abbrev pub end_of : List ℕ → List ℕ
end_of v = if ends_with_blank v then codes "/\n" else codes "\n"

abbrev pub setting : List ℕ → List ℕ → List ℕ
setting name value = name ++ codes " = " ++ value ++ codes "\n"

abbrev pub root_line : List ℕ → Path → List ℕ
root_line name r = name ++ codes " = " ++ root_bytes r ++ end_of (root_bytes r)

abbrev pub path_bytes : Path → List ℕ
path_bytes p = encode_utf8_all (text_of p)

-- A kept value has a line. The whole replica has none, since it is kept if there is no such line.
abbrev pub path_line : Path → List ℕ
path_line p =
    if length (path_bytes p) == 0 then []
    else codes "path = " ++ path_bytes p ++ end_of (path_bytes p)

abbrev pub spec_line : List ℕ → Specification → List ℕ
spec_line name s = setting name (encode_utf8_all (spec_text s))

abbrev pub spec_lines : List ℕ → List Specification → List ℕ
spec_lines name ss = flat_map (spec_line name) ss

-- The line of a preference whose value is the root of a side, if there is one.
abbrev pub root_lines : List ℕ → Option Path → List ℕ
root_lines name None = []
root_lines name (Some r) = root_line name r

abbrev pub side_line : List ℕ → Parts → Option Side → List ℕ
side_line name P None = []
side_line name P (Some side) = root_lines name (at_side P.roots side)

-- The lines that bar these changes at a root. `noupdate` forbids deletions too.
abbrev pub bars_lines : Bars → Path → List ℕ
bars_lines b r =
    (if b.create then root_line (codes "nocreation") r else [])
    ++ (if b.update then root_line (codes "noupdate") r
    else (if b.delete then root_line (codes "nodeletion") r else []))

abbrev pub bars_at : Option Bars → Option Path → List ℕ
bars_at (Some b) (Some r) = bars_lines b r
bars_at b r = []

-- The preference that forbids these changes on some paths.
abbrev pub partial_name : Bars → List ℕ
partial_name b =
    if b.create then codes "nocreationpartial"
    else (if b.update then codes "noupdatepartial" else codes "nodeletionpartial")

abbrev pub partial_at : Partial → Option Path → List ℕ
partial_at b None = []
partial_at b (Some r) =
    partial_name b.bars ++ codes " = " ++ encode_utf8_all (spec_text b.spec) ++ codes " -> "
    ++ root_bytes r ++ end_of (root_bytes r)

abbrev pub partial_line : Parts → Partial → List ℕ
partial_line P b = partial_at b (at_side P.roots b.side)

abbrev pub heading : Parts → List ℕ
heading P = codes "%profile " ++ encode_utf8_all P.name ++ codes "\n"

abbrev pub kept_lines : Parts → List ℕ
kept_lines P =
    root_lines (codes "root") (at_side P.roots Left)
    ++ root_lines (codes "root") (at_side P.roots Right)
    ++ flat_map path_line P.paths

abbrev pub pattern_lines : Parts → List ℕ
pattern_lines P =
    spec_lines (codes "ignore") P.ignore ++ spec_lines (codes "ignorenot") P.ignorenot

abbrev pub protection_lines : Parts → List ℕ
protection_lines P =
    side_line (codes "force") P P.force ++ side_line (codes "prefer") P P.prefer
    ++ bars_at (at_side P.bars Left) (at_side P.roots Left)
    ++ bars_at (at_side P.bars Right) (at_side P.roots Right)

-- The section of a profile.
abbrev pub profile_text : Parts → List ℕ
profile_text P =
    heading P ++ kept_lines P ++ pattern_lines P ++ protection_lines P
    ++ flat_map (partial_line P) P.partial

abbrev pub verb_name : Verb → List ℕ
verb_name Create = codes "nonew"
verb_name Update = codes "nochange"
verb_name Delete = codes "nolose"

-- The root of the rules above is this one.
abbrev pub is_at : Option Path → Path → Bool
is_at None r = false
is_at (Some last) r = path_eq last r

-- A rule has a line with its pattern, and above it one with its root if that isn't the root of the
-- rules above.
abbrev pub rule_lines : Option Path → Rule → List ℕ
rule_lines last R =
    (if is_at last R.root then [] else root_line (codes "root") R.root)
    ++ setting (verb_name R.verb) (encode_utf8_all (spec_text R.spec))

abbrev pub rules_below : Option Path → List Rule → List ℕ
rules_below last [] = []
rules_below last (R ∷ Rs) = rule_lines last R ++ rules_below (Some R.root) Rs

-- The section of the rules, if there are any.
abbrev pub rules_text : List Rule → List ℕ
rules_text [] = []
rules_text (R ∷ Rs) = codes "%rules\n" ++ rules_below None (R ∷ Rs)

abbrev pub bundle_text : List Parts → List Rule → List ℕ
bundle_text Ps Rs = flat_map profile_text Ps ++ rules_text Rs
