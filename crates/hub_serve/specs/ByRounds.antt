-- Runs of the rounds of a set, one after another and in one state.
use Rattle.std.specs.Prelude.{◌≡◌, ◌≢◌, ◌⊎◌, ◌↔◌, ◌<◌, ◌∷◌, ◌++◌, ⊤, ℕ, Bool, true, false}
use Rattle.std.specs.Prelude.{Contains, IfErr, IfOk, Result, Ok, Err, List, [], drop, length, Option, None, Some, string_bytes}
use Rattle.std.specs.List.{find}
use Rattle.hub_profile.specs.Parts.{Parts}
use Rattle.hub_profile.specs.declared.rule.Rule.{Rule}
use Rattle.hub_cert.specs.Set.{Members, IsSafeSet}
use Rattle.hub_cert.specs.declared.fault.CheckFault.{CheckFault}
use Rattle.hub_search.specs.Faults.{AreFaults}
use Rattle.hub_search.specs.Search.{Disproves}
use Rattle.hub_state.specs.State.{State}
use Rattle.hub_job.specs.declared.outcome.Outcome.{Outcome}
use Rattle.hub_schedule.specs.Simulated.{AreFinished}
use Rattle.hub_runner.specs.Working.{AreWorkers, MayRun}
use Rattle.hub_runner.specs.declared.runs.TheConstants.{WORKERS}
use Rattle.hub_rounds.specs.Lines.{subject_of}
use Rattle.hub_rounds.specs.Rounds.{AreRounds}
use Rattle.hub_rounds.specs.Unverified.{RefusesRound, is_memory}
use Rattle.hub_rounds.specs.declared.rounds.Rounds.{Rounds}
use Rattle.hub_rounds.specs.declared.subject.Subject.{Subject}
use Rattle.hub_rounds.specs.declared.subject.Subject.TheVariants.{Pair, Alone, Nothing}
use Rattle.hub_report.specs.Jobs.{lines_of_jobs}
use Rattle.hub_report.specs.declared.run.Run.{Run}
use Rattle.hub_report.specs.declared.rounds_run.RoundsRun.{RoundsRun}
use Rattle.hub_job.specs.declared.run_fault.RunFault.{RunFault}
use Rattle.hub_job.specs.declared.run_fault.RunFault.TheVariants as error
use Rattle.hub_serve.specs.declared.task.Task.{Task}
use Rattle.hub_serve.specs.declared.task.Task.TheVariants as task
use Rattle.hub_serve.specs.Runs.{ComesOf, IsRunOn, PreventsRun, is_out_of_memory}
use Rattle.hub_cli.specs.declared.words.Reading.TheVariants.{Plain}
use Rattle.hub_serve.specs.Rounds.{HasUnverifiedRound}

-- The profiles of a round, with the rules of the set.
abbrev pub round_set : List Rule → List Parts → Members
round_set Rs Ps = record { profiles = Ps; rules = Rs }

-- A round was run by n workers on a state, and this is the outcome. What is promised of it is what
-- is promised of each run of a safe set.
pub record IsRoundRun (Rs : List Rule) (Ps : List Parts) (n : ℕ) (S : State)
    (o : Outcome) : Type 0 where
  pub safe : IsSafeSet (round_set Rs Ps)
  pub may : MayRun S Ps n
  pub run : IsRunOn (round_set Rs Ps) S o

-- The first rounds were run, as many as there are outcomes and each of them once: the first one on
-- this state, and each other one on the state that the round before it left. In each round before
-- another one that was run, all jobs are finished.
abbrev pub AreRunFrom : List Rule → ℕ → State → List (List Parts) → List Outcome → Type 0
AreRunFrom Rs n S rounds [] = ⊤
AreRunFrom Rs n S [] (o ∷ os) = ⊥
AreRunFrom Rs n S (Ps ∷ rounds) (o ∷ os) =
    IsRoundRun Rs Ps n S o × (os ≢ [] → AreFinished o.jobs) × AreRunFrom Rs n o.state rounds os

-- The state that the rounds left: what they began with, if none was run.
abbrev pub final_state : State → List Outcome → State
final_state S [] = S
final_state S (o ∷ os) = final_state o.state os

-- All jobs that were run are finished.
abbrev pub AllFinished : List Outcome → Type 0
AllFinished [] = ⊤
AllFinished (o ∷ os) = AreFinished o.jobs × AllFinished os

-- The rounds that weren't run.
abbrev pub not_run : List (List Parts) → List Outcome → List (List Parts)
not_run rounds os = drop (length os) rounds

-- An error is why the next round, which there is, wasn't run on the state that the last one left.
-- All jobs before it are finished.
pub record IsPreventedAfter (Rs : List Rule) (n : ℕ) (S : State) (rounds : List (List Parts))
    (os : List Outcome) (e : RunFault) : Type 0 where
  pub finished : AllFinished os
  pub next : List Parts
  pub later : List (List Parts)
  pub not_run_are : not_run rounds os ≡ next ∷ later
  pub safe : IsSafeSet (round_set Rs next)
  pub reason : PreventsRun (final_state S os) next n e

-- The number of workers is why no round is run: there are none, or too many.
abbrev pub RefusesWorkers : ℕ → RunFault → Type 0
RefusesWorkers n error.NoWorkers = n ≡ 0
RefusesWorkers n error.TooManyWorkers = WORKERS < n
RefusesWorkers n _ = ⊥

-- Why no more rounds were run. Without an error all were run, or a job of the last one that was run
-- isn't finished. With one the number of workers is why none was run, or the next one wasn't.
abbrev pub Ends : List Rule → ℕ → State → List (List Parts) → List Outcome → Option RunFault
    → Type 0
Ends Rs n S rounds os None = AreWorkers n × ((not_run rounds os ≡ []) ⊎ (AllFinished os → ⊥))
Ends Rs n S rounds os (Some e) =
    ((os ≡ []) × RefusesWorkers n e) ⊎ IsPreventedAfter Rs n S rounds os e

-- The lines of the jobs of the rounds that were run, round by round.
abbrev pub job_lines_of_rounds : List (List Parts) → List Outcome → List ℕ
job_lines_of_rounds rounds [] = []
job_lines_of_rounds [] (o ∷ os) = []
job_lines_of_rounds (Ps ∷ rounds) (o ∷ os) =
    lines_of_jobs Ps o.jobs ++ job_lines_of_rounds rounds os

-- These rounds were run one after another on a state, by n workers: all of them, or until a job of
-- one isn't finished or one isn't run. It is all finished only if so many workers may run, each
-- round was run and each job is finished.
pub record HaveRun (Rs : List Rule) (n : ℕ) (S : State) (rounds : List (List Parts))
    (r : RoundsRun) : Type 0 where
  pub outcomes : List Outcome
  pub run : AreRunFrom Rs n S rounds outcomes
  pub ends : Ends Rs n S rounds outcomes r.error
  pub found : r.rounds ≡ length rounds
  pub lines : string_bytes r.lines ≡ job_lines_of_rounds rounds outcomes
  pub left : r.state ≡ final_state S outcomes
  pub finished : r.finished ≡ true
      ↔ (AreWorkers n × AllFinished outcomes × (not_run rounds outcomes ≡ []))

-- One of these rounds is refused with this fault, which may also be that memory is out.
abbrev pub RefusesOneOf : List Rule → List (List Parts) → CheckFault → Type 0
RefusesOneOf Rs rounds e = (Ps : List Parts) × Contains rounds Ps × RefusesRound (round_set Rs Ps) e

-- A run by rounds of a set: it is cut into rounds, of which each profile is in one, and these were
-- run.
pub record HasRunByRounds (M : Members) (n : ℕ) (S : State) (r : RoundsRun) : Type 0 where
  pub faults : List CheckFault
  pub all : AreFaults M faults
  pub rounds : Rounds
  pub cut : AreRounds M faults rounds
  pub none_left : rounds.left ≡ []
  pub run : HaveRun M.rules n S rounds.rounds r

-- A run by rounds was asked for;
abbrev pub RunsByRounds : Task → Type 0
RunsByRounds t = (n : ℕ) × (S : State) × (t ≡ task.RunByRounds n S)

-- and it was made: it left this.
pub record HasRunByRoundsAs (t : Task) (M : Members) (r : RoundsRun) : Type 0 where
  pub workers : ℕ
  pub state : State
  pub task_is : t ≡ task.RunByRounds workers state
  pub run : HasRunByRounds M workers state r

-- A line says why a profile is in no round.
abbrev pub is_alone : Subject → Bool
is_alone (Pair w o) = false
is_alone (Alone p why) = true
is_alone Nothing = false

abbrev pub leaves_out : CheckFault → Bool
leaves_out e = is_alone (subject_of e)

-- Of the lines of a set, this is the first one that says so.
pub record IsFirstAlone (M : Members) (e : CheckFault) : Type 0 where
  pub faults : List CheckFault
  pub all : AreFaults M faults
  pub first : find leaves_out faults ≡ Some e
  pub disproved : Disproves M e

-- No round was run yet, of so many.
pub record IsBegun (count : ℕ) (r : RoundsRun) : Type 0 where
  pub found : r.rounds ≡ count
  pub lines : string_bytes r.lines ≡ []
  pub finished : r.finished ≡ true
  pub error : r.error ≡ None

-- What came of a round is added to what those before it did and left. Where memory was out, nothing
-- is.
abbrev pub IsAdded : Result Run RunFault → RoundsRun → RoundsRun → Type 0
IsAdded (Ok r) old new =
    (string_bytes new.lines ≡ string_bytes old.lines ++ string_bytes r.lines)
    × (new.state ≡ r.state)
    × (new.finished ≡ r.finished) × (new.error ≡ old.error) × (new.rounds ≡ old.rounds)
IsAdded (Err e) old new =
    (is_out_of_memory e ≡ false)
    × (string_bytes new.lines ≡ string_bytes old.lines) × (new.state ≡ old.state)
    × (new.finished ≡ false) × (new.error ≡ Some e) × (new.rounds ≡ old.rounds)

-- A round of a safe set was to be run on the state that those before it left, and that is added.
pub record AddsRound (Rs : List Rule) (Ps : List Parts) (n : ℕ) (old new : RoundsRun) : Type 0 where
  pub round : Result Run RunFault
  pub safe : IsSafeSet (round_set Rs Ps)
  pub came : ComesOf (round_set Rs Ps) old.state n round
  pub added : IsAdded round old new

-- The claim holds of what was run by rounds, where this came of it.
abbrev pub OfRoundsRun : Result RoundsRun CheckFault → (Members → ℕ → State → Type 0) → Type 0
OfRoundsRun run C =
    (M : Members) (n : ℕ) (S : State) → IfOk run (HasRunByRounds M n S)
    → IfErr run (λ e. is_memory e ≡ false → HasUnverifiedRound Plain M) → C M n S

-- The claim holds of what was to be run by rounds, where a round is refused with this fault.
abbrev pub OfUnverified : CheckFault → (Members → ℕ → State → Type 0) → Type 0
OfUnverified e C =
    (M : Members) (n : ℕ) (S : State) → (is_memory e ≡ false → HasUnverifiedRound Plain M) → C M n S

-- The claim holds if these are all faults of a set, and none says that a profile is in no round.
abbrev pub IfNoneIsLeftOut : Members → List CheckFault → Type 0 → Type 0
IfNoneIsLeftOut M es C = AreFaults M es → find leaves_out es ≡ None → C
