-- The text and the status of the answer to whether a profile reaches a path.
use Rattle.std.specs.Prelude.{ℕ, List, [], ◌∷◌, codes}
use Rattle.hub_report.specs.declared.reach_answer.ReachAnswer.{ReachAnswer}
use Rattle.hub_report.specs.declared.reach_answer.ReachAnswer.TheVariants.{Reached, NotReached}
use Rattle.hub_report.specs.declared.reach_answer.ReachAnswer.TheVariants.{NoProfile, BadPath}
use Rattle.hub_report.specs.Faults.{fault_line, path_fault_name}
use Rattle.hub_report.specs.Refusal.{joined}

-- The line if the bundle has no profile of that name.
abbrev pub no_profile_line : List ℕ → List ℕ
no_profile_line name = joined (codes "fault: no profile " ∷ name ∷ codes "\n" ∷ [])

abbrev pub text_of : ReachAnswer → List ℕ
text_of Reached = codes "reached\n"
text_of NotReached = codes "not reached\n"
text_of (NoProfile name) = no_profile_line name.now
text_of (BadPath f) = fault_line (codes "path") (path_fault_name f)

abbrev pub status_of : ReachAnswer → ℕ
status_of Reached = 0
status_of NotReached = 0
status_of (NoProfile name) = 2
status_of (BadPath f) = 2
