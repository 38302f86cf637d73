-- The lines of refusals.
use Rattle.std.specs.Prelude.{◌≡◌, MatchOption, ℕ, ◌+◌, Bool, true, false, ◌&&◌, ◌==◌, List, [], ◌∷◌, slice_get, Option, Some, None, if◌then◌else◌, codes, encode_utf8_all}
use Rattle.std.specs.List.{flat_map}
use Rattle.std.specs.Fmt.{decimal}
use denote.Ref.{Bor}
use Rattle.hub_path.specs.Path.{Path, text_of, root_bytes}
use Rattle.hub_path.specs.declared.side.Side.TheVariants.{Left, Right}
use Rattle.hub_automaton.specs.declared.fault.AutomatonFault.{AutomatonFault}
use Rattle.hub_automaton.specs.declared.fault.AutomatonFault.TheVariants as automaton
use Rattle.hub_profile.specs.Parts.{Parts, at_side}
use Rattle.hub_profile.specs.declared.rule.Rule.{Rule}
use Rattle.hub_profile.specs.declared.verb.Verb.{Verb}
use Rattle.hub_profile.specs.declared.verb.Verb.TheVariants.{Create, Update, Delete}
use Rattle.hub_cert.specs.Goals.{goals}
use Rattle.hub_cert.specs.Set.{Members}
use Rattle.hub_cert.specs.declared.goal.Place.{Place}
use Rattle.hub_cert.specs.declared.goal.Place.TheVariants.{Replica, Archive}
use Rattle.hub_cert.specs.declared.goal.Goal.{Goal}
use Rattle.hub_cert.specs.declared.goal.Goal.TheVariants.{Clash, Breach}
use Rattle.hub_cert.specs.declared.fault.CheckFault.{CheckFault}
use Rattle.hub_cert.specs.declared.fault.CheckFault.TheVariants as fault
use Rattle.hub_search.specs.declared.reached.TheConstants.{STAGES}
use Rattle.hub_path.specs.Sides.{is_same_side}

abbrev pub path_text : Path → List ℕ
path_text p = encode_utf8_all (text_of p)

-- These texts, one after another.
abbrev pub joined : List (List ℕ) → List ℕ
joined ts = flat_map (λ t. t) ts

-- The name of a profile, by its number.
abbrev pub name_text : Option Parts → List ℕ
name_text None = []
name_text (Some P) = encode_utf8_all P.name

abbrev pub name_at : List Parts → ℕ → List ℕ
name_at Ps i = name_text (slice_get Ps i)

abbrev pub text_of_root : Option Path → List ℕ
text_of_root None = []
text_of_root (Some r) = root_bytes r

-- A place is shown by the writer's root, an archive by both roots in the writer's order.
abbrev pub shown_place : Parts → Place → List ℕ
shown_place W (Replica side) = text_of_root (at_side W.roots side)
shown_place W Archive =
    joined (codes "archive of " ∷ text_of_root (at_side W.roots Left) ∷ codes " and "
    ∷ text_of_root (at_side W.roots Right) ∷ [])

abbrev pub shown_place_of : Option Parts → Place → List ℕ
shown_place_of None place = []
shown_place_of (Some W) place = shown_place W place

-- The claim holds of the writer, if there is one.
abbrev pub OfWriter : Option (Bor Parts) → (Option Parts → Type 0) → Type 0
OfWriter writer C =
    (W : Option Parts) → MatchOption writer (W ≡ None) (λ P. W ≡ Some P.now) → C W

-- An archive, by its two roots.
abbrev pub archive_text : Path → Path → List ℕ
archive_text r s = joined (codes "archive of " ∷ root_bytes r ∷ codes " and " ∷ root_bytes s ∷ [])

abbrev pub verb_text : Verb → List ℕ
verb_text Create = codes "create"
verb_text Update = codes "update"
verb_text Delete = codes "delete"

-- Two places and goals are the same.
abbrev pub is_same_place : Place → Place → Bool
is_same_place (Replica s) (Replica t) = is_same_side s t
is_same_place (Replica s) Archive = false
is_same_place Archive (Replica t) = false
is_same_place Archive Archive = true

abbrev pub is_same_goal : Goal → Goal → Bool
is_same_goal (Clash w o p) (Clash x q r) = w == x && (o == q && is_same_place p r)
is_same_goal (Clash w o p) (Breach x r) = false
is_same_goal (Breach p r) (Clash w o q) = false
is_same_goal (Breach p r) (Breach x s) = p == x && r == s

-- The number of a goal in a list, from 0 on.
abbrev pub number_of : List Goal → Goal → ℕ
number_of [] g = 0
number_of (h ∷ gs) g = if is_same_goal h g then 0 else number_of gs g + 1

-- The line of an overlap: who writes what and where, and who reaches which path at or below it.
abbrev pub overlap_line : List Parts → ℕ → ℕ → Place → Path → Path → List ℕ
overlap_line Ps writer other place held path =
    joined (codes "overlap: " ∷ name_at Ps writer ∷ codes " writes " ∷ path_text held
    ∷ codes " at " ∷ shown_place_of (slice_get Ps writer) place
    ∷ codes ", " ∷ name_at Ps other ∷ codes " reaches " ∷ path_text path ∷ codes "\n" ∷ [])

-- The line of a breach: who may do what a rule forbids, and where.
abbrev pub breach_text : List ℕ → Option Rule → ℕ → Path → List ℕ
breach_text name None number path = []
breach_text name (Some R) number path =
    joined (codes "breach: " ∷ name ∷ codes " may " ∷ verb_text R.verb ∷ codes " " ∷ path_text path
    ∷ codes " at " ∷ root_bytes R.root
    ∷ codes ", rule " ∷ decimal number ∷ codes "\n" ∷ [])

abbrev pub breach_at : List ℕ → List Rule → ℕ → Path → List ℕ
breach_at name Rs number path = breach_text name (slice_get Rs number) number path

abbrev pub breach_line : Members → ℕ → ℕ → Path → List ℕ
breach_line S profile rule path = breach_at (name_at S.profiles profile) S.rules rule path

-- The line of a goal of that number that has more stages than are searched.
abbrev pub too_large_line : ℕ → ℕ → List ℕ
too_large_line goal stages =
    joined (codes "too large: goal " ∷ decimal goal ∷ codes " has more than " ∷ decimal stages
    ∷ codes " stages\n" ∷ [])

-- The line of a goal of that number whose certificate is missing or wrong.
abbrev pub goal_line : ℕ → List ℕ → List ℕ
goal_line number wrong =
    joined (codes "refused: goal " ∷ decimal number ∷ codes " " ∷ wrong ∷ codes "\n" ∷ [])

abbrev pub not_closed : ℕ → ℕ → List ℕ
not_closed stage class =
    joined (codes "stage " ∷ decimal stage ∷ codes " class " ∷ decimal class ∷ codes " NotClosed"
    ∷ [])

abbrev pub accepting : ℕ → List ℕ
accepting stage = joined (codes "stage " ∷ decimal stage ∷ codes " Accepting" ∷ [])

abbrev pub alphabet_line : AutomatonFault → List ℕ
alphabet_line automaton.TooManyCharacters = codes "refused: TooManyCharacters\n"
alphabet_line automaton.TooManySpots = codes "refused: TooManySpots\n"
alphabet_line automaton.OutOfMemory = codes "fault: out of memory\n"

-- The line of a fault that shows a path, or nothing for another fault.
abbrev pub shown_line : Members → CheckFault → List ℕ
shown_line S (fault.Overlap w o place held path) = overlap_line S.profiles w o place held path
shown_line S (fault.Breach p r path) = breach_line S p r path
shown_line S _ = []

-- The line of a fault of a goal, or nothing for another fault.
abbrev pub line_of_goal : List Goal → CheckFault → List ℕ
line_of_goal gs (fault.TooLarge g) = too_large_line (number_of gs g) STAGES
line_of_goal gs (fault.Missing g) = goal_line (number_of gs g) (codes "Missing")
line_of_goal gs (fault.NoStart g) = goal_line (number_of gs g) (codes "NoStart")
line_of_goal gs (fault.NotClosed g k class) = goal_line (number_of gs g) (not_closed k class)
line_of_goal gs (fault.Accepting g k) = goal_line (number_of gs g) (accepting k)
line_of_goal gs _ = []

-- The same of profiles and rules.
abbrev pub line_with_path : List Parts → List Rule → CheckFault → List ℕ
line_with_path Ps Rs e = shown_line (record { profiles = Ps; rules = Rs }) e

-- The line of two roots that are nested, of a certificate that no goal has, and of a line that is no
-- certificate's.
abbrev pub nested_line : Path → Path → List ℕ
nested_line r s =
    joined (codes "refused: NestedRoots " ∷ root_bytes r ∷ codes " and " ∷ root_bytes s ∷ codes "\n"
    ∷ [])

abbrev pub stray_line : ℕ → List ℕ
stray_line i = joined (codes "refused: certificate " ∷ decimal i ∷ codes " Stray\n" ∷ [])

abbrev pub bad_text_line : ℕ → List ℕ
bad_text_line n =
    joined (codes "fault: certificates line " ∷ decimal n ∷ codes ": BadText\n" ∷ [])

-- The line of a fault, by what its numbers stand for: profiles, rules and goals.
abbrev pub check_fault_line : Members → List Goal → CheckFault → List ℕ
check_fault_line S gs fault.TooManyProfiles = codes "refused: TooManyProfiles\n"
check_fault_line S gs (fault.SameName name) =
    joined (codes "refused: SameName " ∷ encode_utf8_all name ∷ codes "\n" ∷ [])
check_fault_line S gs (fault.NestedRoots r s) = nested_line r s
check_fault_line S gs (fault.Overlap w o place held path) =
    shown_line S (fault.Overlap w o place held path)
check_fault_line S gs (fault.Breach p r path) = shown_line S (fault.Breach p r path)
check_fault_line S gs (fault.Stray i) = stray_line i
check_fault_line S gs (fault.BadText line) = bad_text_line line
check_fault_line S gs (fault.AlphabetFault e) = alphabet_line e
check_fault_line S gs fault.OutOfMemory = codes "fault: out of memory\n"
check_fault_line S gs e = line_of_goal gs e

-- The same of profiles and rules.
abbrev pub line_of_fault : List Parts → List Rule → List Goal → CheckFault → List ℕ
line_of_fault Ps Rs gs e = check_fault_line (record { profiles = Ps; rules = Rs }) gs e

-- The line of a fault of a set.
abbrev pub refusal_line : Members → CheckFault → List ℕ
refusal_line S e = check_fault_line S (goals S) e
