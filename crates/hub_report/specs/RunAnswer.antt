-- The text and the status of the answer with what came of a run.
use Rattle.std.specs.Prelude.{ℕ, List, ◌++◌, if◌then◌else◌, codes, string_bytes}
use Rattle.hub_state.specs.Writing.{state_text}
use Rattle.hub_report.specs.declared.run_answer.RunAnswer.{RunAnswer}
use Rattle.hub_report.specs.declared.run_answer.RunAnswer.TheVariants.{Ran, RanByRounds, RanInOrder}
use Rattle.hub_report.specs.declared.run_answer.RunAnswer.TheVariants.{NotRun, NotRunInOrder}
use Rattle.hub_report.specs.RoundsRun.{rounds_run_text}
use Rattle.hub_report.specs.Run.{error_line}

-- `safe` or `in order`, and below it what the jobs did and the text of the state that they left, or
-- why they weren't run; or the text of a run by rounds.
abbrev pub text_of : RunAnswer → List ℕ
text_of (Ran r) = codes "safe\n" ++ (string_bytes r.lines ++ state_text r.state)
text_of (RanByRounds r) = rounds_run_text r
text_of (RanInOrder r) = codes "in order\n" ++ (string_bytes r.lines ++ state_text r.state)
text_of (NotRun e) = codes "safe\n" ++ error_line e
text_of (NotRunInOrder e) = codes "in order\n" ++ error_line e

abbrev pub status_of : RunAnswer → ℕ
status_of (Ran r) = if r.finished then 0 else 3
status_of (RanByRounds r) = if r.finished then 0 else 3
status_of (RanInOrder r) = if r.finished then 0 else 3
status_of (NotRun e) = 3
status_of (NotRunInOrder e) = 3
