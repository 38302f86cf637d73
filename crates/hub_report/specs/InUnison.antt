-- The lines of what clashes in Unison, where two profiles are judged by themselves, and one with the
-- rules. A line names profiles: goals have no numbers there.
use Rattle.std.specs.Prelude.{ℕ, List, [], ◌∷◌, ◌++◌, slice_get, codes}
use Rattle.std.specs.List.{flat_map}
use Rattle.std.specs.Fmt.{decimal}
use Rattle.hub_profile.specs.Parts.{Parts}
use Rattle.hub_profile.specs.declared.rule.Rule.{Rule}
use Rattle.hub_cert.specs.Set.{Members}
use Rattle.hub_cert.specs.declared.fault.CheckFault.{CheckFault}
use Rattle.hub_cert.specs.declared.fault.CheckFault.TheVariants as fault
use Rattle.hub_cert.specs.declared.goal.Goal.{Goal}
use Rattle.hub_cert.specs.declared.goal.Goal.TheVariants.{Clash, Breach}
use Rattle.hub_search.specs.declared.reached.TheConstants.{STAGES}
use Rattle.hub_report.specs.Archive.{archive_lines}
use Rattle.hub_report.specs.NestedOverlap.{unison_shown}
use Rattle.hub_report.specs.Plan.{nested_why}
use Rattle.hub_report.specs.Refusal.{joined, name_at, shown_place_of}

-- The line of a clash that has more stages than are searched: who writes and where, and who reaches;
-- and of such a breach.
abbrev pub large_clash_line : List ℕ → List ℕ → List ℕ → ℕ → List ℕ
large_clash_line writer place other stages =
    joined (codes "too large: " ∷ writer ∷ codes " writes at " ∷ place ∷ codes ", " ∷ other
    ∷ codes " reaches: more than " ∷ decimal stages ∷ codes " stages\n" ∷ [])

abbrev pub large_breach_line : List ℕ → ℕ → ℕ → List ℕ
large_breach_line name rule stages =
    joined (codes "too large: " ∷ name ∷ codes ", rule " ∷ decimal rule ∷ codes ": more than "
    ∷ decimal stages ∷ codes " stages\n" ∷ [])

abbrev pub large_line : List Parts → Goal → List ℕ
large_line Ps (Clash w o place) =
    large_clash_line (name_at Ps w) (shown_place_of (slice_get Ps w) place) (name_at Ps o) STAGES
large_line Ps (Breach p r) = large_breach_line (name_at Ps p) r STAGES

-- The line of a fault: that a goal is too large, that roots of two profiles are nested, or what shows
-- a path.
abbrev pub unison_line : Members → CheckFault → List ℕ
unison_line S (fault.TooLarge g) = large_line S.profiles g
unison_line S (fault.Missing g) = nested_why S.profiles g
unison_line S e = unison_shown S e

-- The same of profiles and rules.
abbrev pub unison_line_in : List Parts → List Rule → CheckFault → List ℕ
unison_line_in Ps Rs e = unison_line (record { profiles = Ps; rules = Rs }) e

-- The lines of faults, each as if it were the only one, and then those of profiles of these numbers
-- that share archives.
abbrev pub unison_lines : Members → List CheckFault → List ℕ
unison_lines S es = flat_map (unison_line S) es

abbrev pub all_unison_lines : Members → List CheckFault → List (ℕ × ℕ) → List ℕ
all_unison_lines S es archives = unison_lines S es ++ archive_lines S.profiles archives

-- The same of profiles and rules.
abbrev pub unison_lines_in : List Parts → List Rule → List CheckFault → List ℕ
unison_lines_in Ps Rs es = unison_lines (record { profiles = Ps; rules = Rs }) es

abbrev pub all_lines_in : List Parts → List Rule → List CheckFault → List (ℕ × ℕ) → List ℕ
all_lines_in Ps Rs es archives =
    all_unison_lines (record { profiles = Ps; rules = Rs }) es archives
