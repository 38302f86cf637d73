-- The text of a run by rounds.
use Rattle.std.specs.Prelude.{◌∷◌, ℕ, List, [], Option, None, Some, codes, string_bytes}
use Rattle.std.specs.Fmt.{decimal}
use Rattle.hub_state.specs.Writing.{state_text}
use Rattle.hub_report.specs.declared.rounds_run.RoundsRun.{RoundsRun}
use Rattle.hub_job.specs.declared.run_fault.RunFault.{RunFault}
use Rattle.hub_report.specs.Refusal.{joined}
use Rattle.hub_report.specs.Run.{error_line}

-- Why a round wasn't run, if that is so.
abbrev pub error_text : Option RunFault → List ℕ
error_text None = []
error_text (Some e) = error_line e

-- What is written above the state: how many rounds there are, lines of jobs, and a reason.
abbrev pub text_above : ℕ → List ℕ → List ℕ → List ℕ
text_above rounds lines reason =
    joined (codes "rounds " ∷ decimal rounds ∷ codes "\n" ∷ lines ∷ reason ∷ [])

-- How many rounds there are, the lines of the jobs of those that were run, why the next one wasn't,
-- and the state that they left.
abbrev pub rounds_run_text : RoundsRun → List ℕ
rounds_run_text r =
    joined (codes "rounds " ∷ decimal r.rounds ∷ codes "\n" ∷ string_bytes r.lines
    ∷ error_text r.error ∷ state_text r.state ∷ [])
