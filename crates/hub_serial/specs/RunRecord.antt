-- Histories and logs of jobs that started at any time. Nothing orders the entries of two replicas:
-- there is no time.
use Rattle.std.specs.Prelude.{◌≡◌, ◌≢◌, ◌<◌, ◌==◌, ℕ, suc, Bool, true, List, [], ◌∷◌, filter, length, slice_get, Option, None, Some, IsTrue, if◌then◌else◌}
use Rattle.std.specs.List.{list_any}
use Rattle.std.specs.FinMap as fin
use Rattle.hub_path.specs.Path.{Path}
use Rattle.hub_profile.specs.Parts.{Parts}
use Rattle.hub_reach.specs.Reach.{reach}
use Rattle.hub_tree.specs.Tree.{Replica, Archive}
use Rattle.hub_reconcile.specs.Items.{items}
use Rattle.hub_job.specs.declared.log.Entry.{Entry}
use Rattle.hub_job.specs.declared.log.Logged.{Logged}
use Rattle.hub_job.specs.declared.op.Next.TheVariants.{Finished}
use Rattle.hub_job.specs.History.{replay, IsLegal, Agree}
use Rattle.hub_job.specs.Job.{next, view_in}
use Rattle.hub_job.specs.Run.{Runs}
use Rattle.hub_serial.specs.Clash.{JobsClash}
use Rattle.hub_serial.specs.Schedule.{after_turns, serial_turns}
use Rattle.hub_serial.specs.Serial.{WorkInTurn}
use Rattle.hub_serial.specs.World.{RootPair, World, opening, pair_of, run, with_marks}

-- What is known of a run without its times: the order in which jobs started, the archive that each
-- was given, its log, whether it is done (its marks are in the archive of its pair), and the history
-- of each root.
pub record RunRecord : Type 0 where
  pub started : List ℕ
  pub given : ℕ → Archive
  pub log : ℕ → List Logged
  pub done : ℕ → Bool
  pub history : Path → List Entry

-- In a list, i stands before k.
abbrev pub StandsBefore : List ℕ → ℕ → ℕ → Type 0
StandsBefore jobs i k =
    (a b : ℕ) × (a < b) × (slice_get jobs a ≡ Some i) × (slice_get jobs b ≡ Some k)

-- Entries of jobs that clash stand in the order in which the jobs started.
abbrev pub AreInOrder : List Parts → List ℕ → List Entry → Type 0
AreInOrder Ps started history =
    (a b : ℕ) (e f : Entry) → a < b → slice_get history a ≡ Some e → slice_get history b ≡ Some f
    → e.job ≢ f.job → JobsClash Ps e.job f.job → StandsBefore started e.job f.job

-- Each job that started has a profile, and started once. Each log is a run of its job, by the archive
-- that the job was given, and if the job is done, it has no more to ask. Each root's history is legal
-- from its replica, is of jobs that started, agrees with their logs, and has what clashes in the
-- order of starts.
pub record IsSettledInOrder (Ps : List Parts) (replicas : Path → Replica) (R : RunRecord) :
    Type 0 where
  pub jobs : (j : ℕ) → list_any (λ i. i == j) R.started ≡ true → (P : Parts)
      × (slice_get Ps j ≡ Some P)
  pub once : (a b j : ℕ) → slice_get R.started a ≡ Some j → slice_get R.started b ≡ Some j → a ≡ b
  pub runs : (j : ℕ) (P : Parts) → slice_get Ps j ≡ Some P → Runs P (R.given j) j [] (R.log j)
  pub finished : (j : ℕ) (P : Parts) → slice_get Ps j ≡ Some P → R.done j ≡ true
      → next P (R.given j) (R.log j) ≡ Finished
  pub legal : (r : Path) → IsLegal Ps r (replicas r) (R.history r)
  pub known : (r : Path) (a : ℕ) (e : Entry) → slice_get (R.history r) a ≡ Some e
      → list_any (λ j. j == e.job) R.started ≡ true
  pub agree : Agree Ps R.history R.log
  pub ordered : (r : Path) → AreInOrder Ps R.started (R.history r)

-- As many turns as the job's log has entries, and one more for its end.
abbrev pub turn_count : RunRecord → ℕ → ℕ
turn_count R j = if R.done j then suc (length (R.log j)) else length (R.log j)

-- The archives with the marks of a job with this log, if it has a profile.
abbrev pub with_marks_by : (RootPair → Archive) → List Logged → Option Parts → RootPair → Archive
with_marks_by archives log None = archives
with_marks_by archives log (Some P) = with_marks P log archives

-- The archives with the marks of a job of the record.
abbrev pub with_marks_of : List Parts → RunRecord → ℕ → (RootPair → Archive) → RootPair → Archive
with_marks_of Ps R j archives = with_marks_by archives (R.log j) (slice_get Ps j)

-- The archives after the end of a job: with its marks, if it is done.
abbrev pub archives_after_end : List Parts → RunRecord → ℕ → (RootPair → Archive) → RootPair
    → Archive
archives_after_end Ps R j archives = if R.done j then with_marks_of Ps R j archives else archives

-- Each of these jobs was given, where it reaches, what its archive is when the ones before it have
-- ended, in this order.
abbrev pub WereGiven : List Parts → RunRecord → List ℕ → (RootPair → Archive) → Type 0
WereGiven Ps R [] archives = Unit {0}
WereGiven Ps R (j ∷ js) archives =
    ((P : Parts) → slice_get Ps j ≡ Some P → (q : Path) → IsTrue (reach P q)
    → fin.get (R.given j) q ≡ fin.get (archives (pair_of P)) q)
    × WereGiven Ps R js (archives_after_end Ps R j archives)

-- The archives after the ends of these jobs, which are done, in order.
abbrev pub archives_after_ends : List Parts → RunRecord → List ℕ → (RootPair → Archive) → RootPair
    → Archive
archives_after_ends Ps R ends archives = after_turns (with_marks_of Ps R) ends archives

-- The world has the logs that are recorded, and the same jobs are done, with the items that their
-- logs give. It has the replicas that the histories leave, and the archives that the ends, in the
-- order of starts, leave.
pub record IsAsRecorded (Ps : List Parts) (replicas : Path → Replica)
    (archives : RootPair → Archive) (R : RunRecord) (w : World) : Type 0 where
  pub log : (j : ℕ) → list_any (λ i. i == j) R.started ≡ true → w.log j ≡ R.log j
  pub done : (j : ℕ) → list_any (λ i. i == j) R.started ≡ true → w.done j ≡ R.done j
  pub items : (j : ℕ) (P : Parts) → list_any (λ i. i == j) R.started ≡ true
      → slice_get Ps j ≡ Some P → R.done j ≡ true
      → w.items j ≡ items (view_in P (R.given j) (R.log j))
  pub replica : (r : Path) → w.replica r ≡ replay (replicas r) (R.history r)
  pub archive : w.archive ≡ archives_after_ends Ps R (filter R.done R.started) archives

-- The serial run of a record: its jobs one after another, in the order of their starts, with as many
-- turns as are recorded.
abbrev pub serial_world : List Parts → (Path → Replica) → (RootPair → Archive) → RunRecord → World
serial_world Ps replicas archives R =
    run Ps (serial_turns (turn_count R) R.started) (opening replicas archives)

-- In it each job works on what the ones before it left.
abbrev pub WorkAsRecorded : List Parts → (Path → Replica) → (RootPair → Archive) → RunRecord
    → Type 0
WorkAsRecorded Ps replicas archives R =
    WorkInTurn Ps (turn_count R) (serial_world Ps replicas archives R) R.started
    (opening replicas archives)
