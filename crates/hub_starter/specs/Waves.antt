-- Waves of jobs: those of one wave that clash have different archives.
use Rattle.std.specs.Prelude.{◌≡◌, ◌≢◌, ◌<◌, ◌≤◌, ◌+◌, ◌==◌, ℕ, Bool, Contains, List, filter, filter_map, length, map, min, max, slice_get, Option, None, Some, unwrap_or, if◌then◌else◌}
use Rattle.std.specs.List.{flat_map, list_any, range_with_len}
use Rattle.hub_profile.specs.Parts.{Parts}
use Rattle.hub_reach.specs.Safe as safe
use Rattle.hub_reach.specs.Safe.{share_archive}
use Rattle.hub_cert.specs.Set.{Members, forbidden_by}
use Rattle.hub_cert.specs.declared.fault.CheckFault.{CheckFault}
use Rattle.hub_rounds.specs.Lines.{HasOwnLine, names_pair, subject_of}
use Rattle.hub_rounds.specs.declared.placing.Obstacle.{Obstacle}
use Rattle.hub_rounds.specs.declared.subject.Subject.{Subject}
use Rattle.hub_rounds.specs.declared.subject.Subject.TheVariants.{Alone, Nothing, Pair}
use Rattle.hub_runner.specs.declared.pairs.JobPair.{JobPair}
use Rattle.hub_search.specs.Faults.{AreFaults}
use Rattle.hub_starter.specs.declared.fault.WavesFault.{WavesFault}
use Rattle.hub_starter.specs.declared.fault.WavesFault.TheVariants as fault
use Rattle.hub_serial.specs.Clash.{JobsClash}

-- Whether one of the lines is about these two profiles: they clash, or whether they do was not
-- decided.
abbrev pub may_clash : List CheckFault → ℕ → ℕ → Bool
may_clash es i j = list_any (λ e. names_pair (subject_of e) i j) es

-- The wave of a job.
abbrev pub wave_of : List ℕ → ℕ → ℕ
wave_of waves j = unwrap_or (slice_get waves j) 0

-- The jobs of a wave, by number, and those of so many waves, wave by wave.
abbrev pub jobs_in_wave : List ℕ → ℕ → List ℕ
jobs_in_wave waves w = filter (λ j. wave_of waves j == w) (range_with_len 0 (length waves))

abbrev pub jobs_by_wave : List ℕ → ℕ → List ℕ
jobs_by_wave waves count = flat_map (jobs_in_wave waves) (range_with_len 0 count)

-- How many waves later a job must be at least than an earlier one that it clashes with: one, if both
-- profiles have the same two roots, since the archive of these must be given to the later job as the
-- earlier one leaves it. Else both may be in one wave.
abbrev pub gap_by : Option Parts → Option Parts → ℕ
gap_by None o = 0
gap_by (Some P) None = 0
gap_by (Some P) (Some Q) = if share_archive P Q then 1 else 0

abbrev pub gap : List Parts → ℕ → ℕ → ℕ
gap Ps i j = gap_by (slice_get Ps i) (slice_get Ps j)

-- Of two jobs that clash the later one is in no earlier wave, and if both have one archive, in a later
-- one.
abbrev pub KeepApart : List Parts → List ℕ → Type 0
KeepApart Ps waves =
    (i j : ℕ) → i < j → j < length waves → JobsClash Ps i j
    → wave_of waves i + gap Ps i j ≤ wave_of waves j

-- Of each two jobs that clash there is a pair.
abbrev pub HaveEachClash : List Parts → List JobPair → Type 0
HaveEachClash Ps pairs =
    (i j : ℕ) → i < j → JobsClash Ps i j
    → (k : ℕ) × (slice_get pairs k ≡ Some (record { earlier = i; later = j }))

-- There are so many waves at most.
abbrev pub AreBelow : ℕ → List ℕ → Type 0
AreBelow count waves = (j : ℕ) → j < length waves → wave_of waves j < count

-- No profile may do what a rule of the set forbids.
abbrev pub NoneBreaks : Members → Type 0
NoneBreaks S =
    (i k : ℕ) (P : Parts) (R : safe.Rule) → slice_get S.profiles i ≡ Some P
    → slice_get (map forbidden_by S.rules) k ≡ Some R → ¬ (safe.Breach P R)

-- A set, the wave of each of its jobs, the pairs of jobs that may clash, and how many waves there are.
pub record WavesValue : Type 0 where
  pub set : Members
  pub numbers : List ℕ
  pub pairs : List JobPair
  pub count : ℕ

abbrev pub waves_value : Members → List ℕ → List JobPair → ℕ → WavesValue
waves_value S waves pairs count =
    record { set = S; numbers = waves; pairs = pairs; count = count }

-- Each job has a wave, and there is at least one. No profile breaks a rule.
pub record AreWaves (w : WavesValue) : Type 0 where
  pub each : length w.numbers ≡ length w.set.profiles
  pub pairs : HaveEachClash w.set.profiles w.pairs
  pub apart : KeepApart w.set.profiles w.numbers
  pub below : AreBelow w.count w.numbers
  pub some : 0 < w.count
  pub rules : NoneBreaks w.set

-- No line is about a profile alone: none says that one may break a rule.
abbrev pub NoOwnLines : List CheckFault → Type 0
NoOwnLines es =
    (e : CheckFault) → Contains es e → (i : ℕ) (why : Obstacle) → subject_of e ≢ Alone i why

-- The two profiles that a line is about, the lower number first.
abbrev pub pair_said : Subject → Option JobPair
pair_said (Pair w o) = Some (record { earlier = min w o; later = max w o })
pair_said (Alone p why) = None
pair_said Nothing = None

-- Those of each line.
abbrev pub pairs_in : List CheckFault → List JobPair
pairs_in es = filter_map (λ e. pair_said (subject_of e)) es

-- As the pairs say it: the later job of each is in no earlier wave, or in a later one.
abbrev pub RiseBy : List Parts → List JobPair → List ℕ → Type 0
RiseBy Ps pairs waves =
    (k : ℕ) (p : JobPair) → slice_get pairs k ≡ Some p → p.earlier < p.later
    → p.later < length waves
    → wave_of waves p.earlier + gap Ps p.earlier p.later ≤ wave_of waves p.later

-- Each job's wave isn't above its number.
abbrev pub AreLow : List ℕ → Type 0
AreLow waves = (j : ℕ) → j < length waves → wave_of waves j ≤ j

-- A wave in which the job that comes after these may be by this pair: it is late enough after that of
-- the earlier job, and isn't above their number.
pub record MayFollow (Ps : List Parts) (waves : List ℕ) (p : JobPair) (wave : ℕ) : Type 0 where
  pub above : p.later ≡ length waves → p.earlier < length waves
      → wave_of waves p.earlier + gap Ps p.earlier p.later ≤ wave
  pub low : wave ≤ length waves

-- By each of the pairs it may be in this wave.
pub record IsNextWave (Ps : List Parts) (pairs : List JobPair) (waves : List ℕ) (wave : ℕ) : Type 0
  where
    pub above : (k : ℕ) (p : JobPair) → slice_get pairs k ≡ Some p → p.later ≡ length waves
        → p.earlier < length waves
        → wave_of waves p.earlier + gap Ps p.earlier p.later ≤ wave
    pub low : wave ≤ length waves

-- Why a set has no waves: a line says that a profile may break a rule, or that this was not decided.
-- Or there is no memory.
abbrev pub IsWavesFault : Members → WavesFault → Type 0
IsWavesFault S (fault.MayBreak i why) =
    (es : List CheckFault) × AreFaults S es × HasOwnLine es i why
IsWavesFault S fault.OutOfMemory = Unit {0}
