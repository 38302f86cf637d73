-- What waves leave.
use Rattle.std.specs.Prelude.{◌≡◌, ◌≤◌, ◌==◌, ℕ, suc, Bool, true, false, List, [], length, map, slice_get, None, Some}
use Rattle.hub_state.specs.State.{IsState, State}
use Rattle.hub_job.specs.declared.job_end.JobEnd.{JobEnd}
use Rattle.hub_job.specs.declared.outcome.Outcome.{Outcome}
use Rattle.hub_schedule.specs.Refusals.{first_missing}
use Rattle.hub_schedule.specs.Simulated.{HaveEnded}
use Rattle.hub_runner.specs.Order.{IsSettledBy}
use Rattle.hub_runner.specs.Part.{OthersWait, without_turns}
use Rattle.hub_cert.specs.Set.{HasValidProfiles}
use Rattle.hub_serial.specs.Schedule.{serial_turns}
use Rattle.hub_serial.specs.World.{run}
use Rattle.hub_starter.specs.InOrder.{IsSerial, KeepsWhatIsThere}
use Rattle.hub_starter.specs.Opened.{opening_of, turns_in, world_of}
use Rattle.hub_starter.specs.Waves.{AreWaves, WavesValue, jobs_by_wave, jobs_in_wave, wave_of}

-- The outcome shows the world after the turns of these jobs one after another, each with as many as
-- its log has entries, and one for its end.
abbrev pub IsAfterJobs : State → WavesValue → List ℕ → Outcome → Type 0
IsAfterJobs S w jobs o =
    world_of o.state o.jobs
    ≡ run w.set.profiles (serial_turns (turns_in (world_of o.state o.jobs)) jobs) (opening_of S)

-- What a set's jobs leave, if they are those of some waves: each job has an end, the state is whole
-- and has a replica for each root.
pub record IsOutcomeOfSome (w : WavesValue) (o : Outcome) : Type 0 where
  pub all : length o.jobs ≡ length w.set.profiles
  pub ended : HaveEnded o.jobs
  pub valid : IsState o.state
  pub there : first_missing o.state w.set.profiles ≡ None

-- An outcome of one wave. Jobs of other waves have had no turn.
pub record IsWaveOf (S : State) (w : WavesValue) (k : ℕ) (o : Outcome) : Type 0 where
  pub some : IsOutcomeOfSome w o
  pub kept : KeepsWhatIsThere S w.set.profiles o
  pub world : IsAfterJobs S w (jobs_in_wave w.numbers k) o
  pub rest : (j : ℕ) (e : JobEnd) → slice_get o.jobs j ≡ Some e → (wave_of w.numbers j == k) ≡ false
      → e ≡ without_turns

-- An outcome of the first k waves. Jobs of later waves have had no turn.
pub record IsAfterWaves (S : State) (w : WavesValue) (k : ℕ) (o : Outcome) : Type 0 where
  pub some : IsOutcomeOfSome w o
  pub kept : KeepsWhatIsThere S w.set.profiles o
  pub world : IsAfterJobs S w (jobs_by_wave w.numbers k) o
  pub rest : (j : ℕ) (e : JobEnd) → slice_get o.jobs j ≡ Some e → k ≤ wave_of w.numbers j
      → e ≡ without_turns

-- The ends of jobs, with those of a wave in their places.
pub record AreMergedEnds (numbers : List ℕ) (k : ℕ) (earlier later all : List JobEnd) : Type 0 where
  pub count : length all ≡ length earlier
  pub own : (j : ℕ) → (wave_of numbers j == k) ≡ true → slice_get all j ≡ slice_get later j
  pub old : (j : ℕ) → (wave_of numbers j == k) ≡ false → slice_get all j ≡ slice_get earlier j

-- Nothing was done.
pub record IsNoJob (S : State) (o : Outcome) : Type 0 where
  pub state : o.state ≡ S
  pub jobs : o.jobs ≡ []

-- Which jobs are of a wave.
abbrev pub part_for : List ℕ → ℕ → List Bool
part_for numbers k = map (λ own. own == k) numbers

-- The claim holds of a set's waves and a state, where the state is whole and has all replicas.
abbrev pub OfWaves : (State → WavesValue → Type 0) → Type 0
OfWaves C =
    (S : State) (w : WavesValue) → AreWaves w → HasValidProfiles w.set
    → IsState S → first_missing S w.set.profiles ≡ None → C S w

-- What is settled of a wave is an outcome of it.
abbrev pub WaveIsSerial : State → WavesValue → Type 0
WaveIsSerial S w =
    (k : ℕ) (o : Outcome) → IsSettledBy S w.set.profiles w.pairs o
    → OthersWait (part_for w.numbers k) o → HaveEnded o.jobs → IsState o.state → IsWaveOf S w k o

-- The first wave is one, and one wave after others makes one more.
abbrev pub FirstWave : State → WavesValue → Type 0
FirstWave S w = (o : Outcome) → IsWaveOf S w 0 o → IsAfterWaves S w 1 o

abbrev pub OneMoreWave : State → WavesValue → Type 0
OneMoreWave S w =
    (k : ℕ) (o later m : Outcome) → IsAfterWaves S w k o → IsWaveOf o.state w k later
    → m.state ≡ later.state → AreMergedEnds w.numbers k o.jobs later.jobs m.jobs
    → IsAfterWaves S w (suc k) m

-- All waves leave what the jobs leave in the order of their profiles.
abbrev pub AllWaves : State → WavesValue → Type 0
AllWaves S w = (o : Outcome) → IsAfterWaves S w w.count o → IsSerial S w.set.profiles o
