-- The lines of what clashes in a set, and of its rounds.
use Rattle.std.specs.Prelude.{ℕ, ◌+◌, List, [], ◌∷◌, ◌++◌, length, codes, encode_utf8_all}
use Rattle.std.specs.List.{flat_map}
use Rattle.std.specs.Fmt.{decimal}
use Rattle.hub_profile.specs.Parts.{Parts}
use Rattle.hub_cert.specs.Set.{Members}
use Rattle.hub_cert.specs.declared.fault.CheckFault.{CheckFault}
use Rattle.hub_rounds.specs.declared.placing.Placed.{Placed}
use Rattle.hub_rounds.specs.declared.placing.Placing.{Placing}
use Rattle.hub_rounds.specs.declared.placing.Placing.TheVariants.{Round, Unplaced}
use Rattle.hub_rounds.specs.declared.placing.Obstacle.{Obstacle}
use Rattle.hub_rounds.specs.declared.placing.Obstacle.TheVariants.{Breach, TooLarge}
use Rattle.hub_rounds.specs.declared.rounds.Rounds.{Rounds}
use Rattle.hub_rounds.specs.declared.numbered.LeftOut.{LeftOut}
use Rattle.hub_rounds.specs.declared.numbered.NumberedRounds.{NumberedRounds}
use Rattle.hub_report.specs.Archive.{archive_lines}
use Rattle.hub_report.specs.Refusal.{joined, name_at, refusal_line}

-- The lines of the faults of a set, each as if it were the only one.
abbrev pub clash_lines : Members → List CheckFault → List ℕ
clash_lines S es = flat_map (refusal_line S) es

-- These, and then the lines of profiles of these numbers that share archives.
abbrev pub lines_of_all : Members → List CheckFault → List (ℕ × ℕ) → List ℕ
lines_of_all S es archives = clash_lines S es ++ archive_lines S.profiles archives

-- The line of a profile of the round of that number: of that name; and of that profile.
abbrev pub name_in : List ℕ → List ℕ → List ℕ
name_in number name = joined (codes "round " ∷ number ∷ codes " " ∷ name ∷ codes "\n" ∷ [])

abbrev pub line_in : List ℕ → Parts → List ℕ
line_in number P = name_in number (encode_utf8_all P.name)

-- The lines of these rounds, of which the first has this number.
abbrev pub lines_of_rounds : ℕ → List (List Parts) → List ℕ
lines_of_rounds k [] = []
lines_of_rounds k (Ps ∷ rounds) =
    flat_map (line_in (decimal k)) Ps ++ lines_of_rounds (k + 1) rounds

-- The line of a profile that is in no round: why, the number of the rule, and its name.
abbrev pub rule_line : List ℕ → ℕ → List ℕ → List ℕ
rule_line why rule name = joined (why ∷ decimal rule ∷ codes " " ∷ name ∷ codes "\n" ∷ [])

abbrev pub reason_line : List ℕ → Obstacle → List ℕ
reason_line name (Breach rule) = rule_line (codes "breach ") rule name
reason_line name (TooLarge rule) = rule_line (codes "too large ") rule name

abbrev pub placing_line : Parts → Placing → List ℕ
placing_line P (Round k) = []
placing_line P (Unplaced why) = reason_line (encode_utf8_all P.name) why

abbrev pub left_line : Placed → List ℕ
left_line p = placing_line p.profile p.placing

-- How many rounds were found, and how many are needed at least.
abbrev pub counts_text : ℕ → ℕ → List ℕ
counts_text found least =
    joined (codes "rounds " ∷ decimal found ∷ codes "\nat least " ∷ decimal least ∷ codes "\n" ∷ [])

-- These counts, the profiles of each round, and those that are in none.
abbrev pub rounds_text : Rounds → List ℕ
rounds_text r =
    counts_text (length r.rounds) (length r.rivals)
    ++ (lines_of_rounds 1 r.rounds ++ flat_map left_line r.left)

-- The lines of the profiles of these numbers in a round; and of these rounds, of which the first has
-- number k.
abbrev pub number_line : List Parts → List ℕ → ℕ → List ℕ
number_line Ps number i = name_in number (name_at Ps i)

abbrev pub lines_of_numbers : List Parts → ℕ → List (List ℕ) → List ℕ
lines_of_numbers Ps k [] = []
lines_of_numbers Ps k (ns ∷ rounds) =
    flat_map (number_line Ps (decimal k)) ns ++ lines_of_numbers Ps (k + 1) rounds

-- The line of a profile that is left out.
abbrev pub left_out_line : List Parts → LeftOut → List ℕ
left_out_line Ps l = reason_line (name_at Ps l.number) l.reason

-- The same counts and lines, of rounds of numbers of these profiles.
abbrev pub numbers_text : List Parts → NumberedRounds → List ℕ
numbers_text Ps r =
    counts_text (length r.rounds) (length r.rivals)
    ++ (lines_of_numbers Ps 1 r.rounds ++ flat_map (left_out_line Ps) r.left)
