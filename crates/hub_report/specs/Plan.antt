-- The text of a plan of Unison's runs.
use Rattle.std.specs.Prelude.{ℕ, ◌+◌, ◌==◌, ◌&&◌, ◌||◌, nat_le, Bool, true, false, not, List, [], ◌∷◌, ◌++◌, length, map, slice_get, if◌then◌else◌, codes, encode_utf8_all, unwrap_or}
use Rattle.std.specs.List.{flat_map, list_any}
use Rattle.std.specs.Fmt.{decimal}
use Rattle.hub_path.specs.Path.{Name, root_bytes}
use Rattle.hub_profile.specs.Parts.{Parts}
use Rattle.hub_profile.specs.declared.rule.Rule.{Rule}
use Rattle.hub_cert.specs.Set.{Members}
use Rattle.hub_cert.specs.declared.fault.CheckFault.{CheckFault}
use Rattle.hub_cert.specs.declared.fault.CheckFault.TheVariants as fault
use Rattle.hub_cert.specs.declared.goal.Goal.{Goal}
use Rattle.hub_cert.specs.declared.goal.Goal.TheVariants.{Clash, Breach}
use Rattle.hub_search.specs.declared.reached.TheConstants.{STAGES}
use Rattle.hub_rounds.specs.Lines.{names_alone, subject_of}
use Rattle.hub_rounds.specs.declared.subject.Subject.{Subject}
use Rattle.hub_rounds.specs.declared.subject.Subject.TheVariants.{Pair, Alone, Nothing}
use Rattle.hub_report.specs.Archive.{archive_line}
use Rattle.hub_report.specs.Faults.{profile_fault_name}
use Rattle.hub_report.specs.NestedOverlap.{unison_shown}
use Rattle.hub_report.specs.Refusal.{joined, name_at}
use Rattle.hub_report.specs.declared.plan.Roster.{Roster}
use Rattle.hub_report.specs.declared.plan.Unread.{Unread}

-- The line of a profile: its number and its name. Those of these, of which the first has number k.
abbrev pub name_line : List ℕ → Name → List ℕ
name_line number name =
    joined (codes "profile " ∷ number ∷ codes " " ∷ encode_utf8_all name ∷ codes "\n" ∷ [])

abbrev pub name_lines : ℕ → List Name → List ℕ
name_lines k [] = []
name_lines k (n ∷ ns) = name_line (decimal k) n ++ name_lines (k + 1) ns

-- The number of a profile, by its place among those that are read; and as it is written.
abbrev pub number_at : List ℕ → ℕ → ℕ
number_at numbers i = unwrap_or (slice_get numbers i) 0

abbrev pub shown_number : List ℕ → ℕ → List ℕ
shown_number numbers i = decimal (number_at numbers i)

-- The lines of the roots of a profile of this number; and of these, of which the first has place i.
abbrev pub root_line : List ℕ → List ℕ → List ℕ
root_line number root = joined (codes "root " ∷ number ∷ codes " " ∷ root ∷ codes "\n" ∷ [])

abbrev pub lines_of_roots : List ℕ → Parts → List ℕ
lines_of_roots number P = flat_map (λ r. root_line number (root_bytes r)) P.roots

abbrev pub root_lines : List ℕ → ℕ → List Parts → List ℕ
root_lines numbers i [] = []
root_lines numbers i (P ∷ Ps) =
    lines_of_roots (shown_number numbers i) P ++ root_lines numbers (i + 1) Ps

-- The line of two profiles, by their places, that may not run at the same time, with why. The reason
-- is a line.
abbrev pub apart_line : List ℕ → ℕ → ℕ → List ℕ → List ℕ
apart_line numbers i j why =
    joined (codes "apart " ∷ shown_number numbers i ∷ codes " " ∷ shown_number numbers j ∷ codes " "
    ∷ why ∷ [])

-- The line of a profile that is not to be run, with why.
abbrev pub refused_line : List ℕ → ℕ → List ℕ → List ℕ
refused_line numbers i why =
    joined (codes "refused " ∷ shown_number numbers i ∷ codes " " ∷ why ∷ [])

-- The lower and the higher one of two places.
abbrev pub lower : ℕ → ℕ → ℕ
lower i j = if nat_le i j then i else j

abbrev pub higher : ℕ → ℕ → ℕ
higher i j = if nat_le i j then j else i

-- The line of what is said of which profiles, with why.
abbrev pub subject_line : List ℕ → Subject → List ℕ → List ℕ
subject_line numbers (Pair w o) why = apart_line numbers (lower w o) (higher w o) why
subject_line numbers (Alone p reason) why = refused_line numbers p why
subject_line numbers Nothing why = []

-- Why, in a line: a goal has too many stages; roots of two profiles are nested; or what `clashes`
-- says.
abbrev pub undecided_why : ℕ → List ℕ
undecided_why stages =
    joined (codes "undecided: more than " ∷ decimal stages ∷ codes " stages\n" ∷ [])

abbrev pub nested_text : List ℕ → List ℕ → List ℕ
nested_text first second =
    joined (codes "nested roots: " ∷ first ∷ codes " and " ∷ second ∷ codes "\n" ∷ [])

abbrev pub nested_why : List Parts → Goal → List ℕ
nested_why Ps (Clash w o place) = nested_text (name_at Ps w) (name_at Ps o)
nested_why Ps (Breach p r) = []

abbrev pub why_of : Members → CheckFault → List ℕ
why_of S (fault.TooLarge g) = undecided_why STAGES
why_of S (fault.Missing g) = nested_why S.profiles g
why_of S e = unison_shown S e

-- The same of profiles and rules.
abbrev pub why_in : List Parts → List Rule → CheckFault → List ℕ
why_in Ps Rs e = why_of (record { profiles = Ps; rules = Rs }) e

-- The line of a fault of one or two profiles.
abbrev pub plan_line : List ℕ → Members → CheckFault → List ℕ
plan_line numbers S e = subject_line numbers (subject_of e) (why_of S e)

abbrev pub plan_lines : List ℕ → Members → List CheckFault → List ℕ
plan_lines numbers S es = flat_map (plan_line numbers S) es

-- The line of two profiles that share an archive.
abbrev pub shared_line : List ℕ → List Parts → ℕ × ℕ → List ℕ
shared_line numbers Ps n = apart_line numbers n.0 n.1 (archive_line Ps n)

abbrev pub shared_lines : List ℕ → List Parts → List (ℕ × ℕ) → List ℕ
shared_lines numbers Ps archives = flat_map (shared_line numbers Ps) archives

-- Profiles that aren't read run alone, if there are no rules. Else they may break one.
abbrev pub run_alone : List Rule → Bool
run_alone Rs = length Rs == 0

abbrev pub unread_word : List Rule → List ℕ
unread_word Rs = if run_alone Rs then codes "alone " else codes "refused "

abbrev pub unread_line : List ℕ → Unread → List ℕ
unread_line word u =
    joined (word ∷ decimal u.number ∷ codes " line " ∷ decimal u.fault.line ∷ codes ": "
    ∷ profile_fault_name u.fault.fault ∷ codes "\n" ∷ [])

abbrev pub unread_lines : List Rule → List Unread → List ℕ
unread_lines Rs us = flat_map (unread_line (unread_word Rs)) us

-- A line says why this profile is not to be run.
abbrev pub names_place : ℕ → CheckFault → Bool
names_place i e = names_alone i (subject_of e)

abbrev pub is_refused : List CheckFault → ℕ → Bool
is_refused es i = list_any (λ e. names_place i e) es

-- The numbers of those that are read and are to be run, of which the first has place i;
abbrev pub read_item : List CheckFault → ℕ → ℕ → List ℕ
read_item es i n = if is_refused es i then [] else n ∷ []

abbrev pub read_order : List CheckFault → ℕ → List ℕ → List ℕ
read_order es i [] = []
read_order es i (n ∷ ns) = read_item es i n ++ read_order es (i + 1) ns

-- of those that aren't read and are to be run;
abbrev pub unread_numbers : List Unread → List ℕ
unread_numbers us = map (λ u. u.number) us

abbrev pub unread_order : List Rule → List Unread → List ℕ
unread_order Rs us = if run_alone Rs then unread_numbers us else []

-- and of all, those that run alone last.
abbrev pub order_of : Roster → List Rule → List CheckFault → List ℕ
order_of r Rs es = read_order es 0 r.numbers ++ unread_order Rs r.unread

abbrev pub order_item : ℕ → List ℕ
order_item n = codes " " ++ decimal n

abbrev pub order_line : List ℕ → List ℕ
order_line ns = codes "order" ++ (flat_map order_item ns ++ codes "\n")

-- No profile is refused.
abbrev pub is_alone : Subject → Bool
is_alone (Pair w o) = false
is_alone (Alone p why) = true
is_alone Nothing = false

abbrev pub leaves_out : CheckFault → Bool
leaves_out e = is_alone (subject_of e)

abbrev pub is_whole : Roster → List Rule → List CheckFault → Bool
is_whole r Rs es =
    not (list_any leaves_out es) && (run_alone Rs || length r.unread == 0)

-- The plan of the profiles of an input. The read ones and the rules are these, with these lines and
-- shared archives.
abbrev pub facts_text : Roster → Members → List CheckFault → List (ℕ × ℕ) → List ℕ
facts_text r S es archives =
    name_lines 1 r.names
    ++ (root_lines r.numbers 0 S.profiles
    ++ (plan_lines r.numbers S es
    ++ (shared_lines r.numbers S.profiles archives ++ unread_lines S.rules r.unread)))

abbrev pub plan_text : Roster → Members → List CheckFault → List (ℕ × ℕ) → List ℕ
plan_text r S es archives =
    codes "plan 1\n" ++ (facts_text r S es archives ++ order_line (order_of r S.rules es))

-- The same of profiles and rules.
abbrev pub text_in : Roster → List Parts → List Rule → List CheckFault → List (ℕ × ℕ) → List ℕ
text_in r Ps Rs es archives = plan_text r (record { profiles = Ps; rules = Rs }) es archives

abbrev pub facts_in : Roster → List Parts → List Rule → List CheckFault → List (ℕ × ℕ) → List ℕ
facts_in r Ps Rs es archives = facts_text r (record { profiles = Ps; rules = Rs }) es archives

abbrev pub line_in : List ℕ → List Parts → List Rule → CheckFault → List ℕ
line_in numbers Ps Rs e = plan_line numbers (record { profiles = Ps; rules = Rs }) e

abbrev pub lines_in : List ℕ → List Parts → List Rule → List CheckFault → List ℕ
lines_in numbers Ps Rs es = plan_lines numbers (record { profiles = Ps; rules = Rs }) es
