-- The lines for standard error: which two profiles count as clashing, since their goal was too
-- large.
use Rattle.std.specs.Prelude.{ℕ, nat_lt, Bool, false, not, List, [], ◌∷◌, ◌++◌, length}
use Rattle.std.specs.Prelude.{Option, None, Some, if◌then◌else◌, codes}
use Rattle.hub_profile.specs.Parts.{Parts}
use Rattle.hub_cert.specs.declared.goal.Goal.{Goal}
use Rattle.hub_cert.specs.declared.goal.Goal.TheVariants.{Clash, Breach}
use Rattle.hub_cert.specs.declared.fault.CheckFault.{CheckFault}
use Rattle.hub_cert.specs.declared.fault.CheckFault.TheVariants as fault
use Rattle.hub_report.specs.Pairs.{are_joined}
use Rattle.hub_report.specs.Refusal.{joined, name_at}
use Rattle.hub_report.specs.declared.pair.Pair.{Pair}
use Rattle.hub_report.specs.declared.undecided.TheConstants.{NAMED}

-- The two profiles of a clash: who writes, and who reaches.
abbrev pub clashing_pair : Goal → Option Pair
clashing_pair (Clash w o place) = Some (record { writer = w; other = o })
clashing_pair (Breach p r) = None

-- Of a fault, the two profiles whose clash is too large to be searched.
abbrev pub undecided_in : CheckFault → Option Pair
undecided_in (fault.TooLarge g) = clashing_pair g
undecided_in _ = None

-- The line that names two profiles.
abbrev pub pair_line : List Parts → Pair → List ℕ
pair_line Ps p =
    joined (codes "hubsync: too large to decide, so in different rounds: "
    ∷ name_at Ps p.writer ∷ codes " and " ∷ name_at Ps p.other ∷ codes "\n" ∷ [])

-- The line below those of the first pairs, if there are more.
abbrev pub others_line : List ℕ
others_line = codes "hubsync: too large to decide for others, too: clashes --dot draws all of them\n"

-- So many pairs have a line. The next one has its own, or that of all others.
abbrev pub line_after : List Parts → ℕ → Pair → List ℕ
line_after Ps n p = if nat_lt n NAMED then pair_line Ps p else others_line

-- A pair gets a line, if it has none yet, in either order, and the others have none.
abbrev pub is_new : List Pair → Pair → Bool
is_new told p = if nat_lt NAMED (length told) then false else not (are_joined told p)

-- The line of a pair below those of these pairs; and which have one then.
abbrev pub new_line : List Parts → List Pair → Option Pair → List ℕ
new_line Ps told None = []
new_line Ps told (Some p) = if is_new told p then line_after Ps (length told) p else []

abbrev pub told_after : List Pair → Option Pair → List Pair
told_after told None = told
told_after told (Some p) = if is_new told p then told ++ p ∷ [] else told

-- The lines of faults in their order, below those of these pairs.
abbrev pub lines_below : List Parts → List Pair → List CheckFault → List ℕ
lines_below Ps told [] = []
lines_below Ps told (e ∷ es) =
    new_line Ps told (undecided_in e) ++ lines_below Ps (told_after told (undecided_in e)) es

-- A line for each of the first two profiles whose clash is too large, in the order of the faults,
-- and one line for all others. Nobody is named twice with the same profile.
abbrev pub undecided_lines : List Parts → List CheckFault → List ℕ
undecided_lines Ps es = lines_below Ps [] es
