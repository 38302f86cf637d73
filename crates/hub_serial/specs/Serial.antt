-- One synchronization after another.
use Rattle.std.specs.Prelude.{◌≡◌, ◌≢◌, ◌==◌, ◌<◌, ℕ, true, false, List, [], ◌∷◌, length, replicate, slice_get, Some}
use Rattle.std.specs.List.{list_any}
use Rattle.hub_path.specs.Path.{Path}
use Rattle.hub_path.specs.declared.side.Side.{Side}
use Rattle.hub_path.specs.declared.side.Side.TheVariants.{Left, Right}
use Rattle.hub_profile.specs.Parts.{Parts}
use Rattle.hub_reach.specs.Reach.{has_root}
use Rattle.hub_tree.specs.Tree.{Archive, Replica, IsTree, contents_at, old_mark_at}
use Rattle.hub_reconcile.specs.Items.{items}
use Rattle.hub_reconcile.specs.View.{View}
use Rattle.hub_reconcile.specs.Sync.{synced_contents, synced_mark, view_of}
use Rattle.hub_job.specs.declared.log.Logged.{Logged}
use Rattle.hub_job.specs.Job.{is_refused}
use Rattle.hub_job.specs.Run.{root_at, turns_bound}
use Rattle.hub_job.specs.Same.{own_turns}
use Rattle.hub_serial.specs.Clash.{AreProfiles, NoneClashesWith}
use Rattle.hub_serial.specs.Schedule.{AreDistinct, jobs_in_order, serial_turns}
use Rattle.hub_serial.specs.World.{RootPair, World, archive_for, pair_eq, pair_of, opening, run}

-- The view of a profile's two replicas and of their archive in a world.
abbrev pub view_at : Parts → World → View
view_at P w =
    view_of P (w.replica (root_at P Left)) (w.replica (root_at P Right)) (archive_for P w)

-- What a job leaves of a world is one synchronization of its two replicas and of their archive, and
-- its items are those of it. Nothing was refused to it. All other replicas and archives are as they
-- were.
pub record IsSyncOf (P : Parts) (j : ℕ) (before after : World) : Type 0 where
  pub contents : (k : Side) (q : Path)
      → contents_at (after.replica (root_at P k)) q ≡ synced_contents P
      (before.replica (root_at P Left)) (before.replica (root_at P Right)) (archive_for P before)
      k q
  pub marks : (q : Path) → old_mark_at (archive_for P after) q ≡ synced_mark (view_at P before) q
  pub ok : list_any (λ e. is_refused e.step.answer) (after.log j) ≡ false
  pub items : after.items j ≡ items (view_at P before)
  pub replicas : (r : Path) → has_root P r ≡ false → after.replica r ≡ before.replica r
  pub archives : (k : RootPair) → pair_eq (pair_of P) k ≡ false
      → after.archive k ≡ before.archive k

-- Each of these jobs synchronizes what the ones before it left.
abbrev pub AreSyncsInTurn : List Parts → List ℕ → World → World → Type 0
AreSyncsInTurn Ps [] before after = before ≡ after
AreSyncsInTurn Ps (j ∷ js) before after =
    (P : Parts) × (between : World) × (slice_get Ps j ≡ Some P) × IsSyncOf P j before between
    × AreSyncsInTurn Ps js between after

-- A job's own part of a run that comes to the end: what it leaves is what so many turns of it leave,
-- if no other job has a turn. Its log, whether it is done, and its items stay to the end. Nothing
-- was refused to it. If it is done, it has synchronized. If it has more turns than any
-- synchronization of what it finds takes, it is done.
pub record IsWorkOf (Ps : List Parts) (j n : ℕ) (before after end : World) : Type 0 where
  pub alone : after ≡ run Ps (replicate n j) before
  pub log : end.log j ≡ after.log j
  pub done : end.done j ≡ after.done j
  pub items : end.items j ≡ after.items j
  pub ok : (P : Parts) → slice_get Ps j ≡ Some P
      → list_any (λ e. is_refused e.step.answer) (after.log j) ≡ false
  pub sync : (P : Parts) → slice_get Ps j ≡ Some P → after.done j ≡ true
      → IsSyncOf P j before after
  pub enough : (P : Parts) → slice_get Ps j ≡ Some P
      → turns_bound P (before.replica (root_at P Left)) (before.replica (root_at P Right)) < n
      → after.done j ≡ true

-- Each of these jobs works on what the ones before it left, with so many turns.
abbrev pub WorkInTurn : List Parts → (ℕ → ℕ) → World → List ℕ → World → Type 0
WorkInTurn Ps turns end [] before = before ≡ end
WorkInTurn Ps turns end (j ∷ js) before =
    (after : World) × IsWorkOf Ps j (turns j) before after end × WorkInTurn Ps turns end js after

-- The claim holds of all profiles as they are read, all schedules, all replicas that are trees, and
-- all archives.
abbrev pub OfTreesAndArchives :
    (List Parts → List ℕ → (Path → Replica) → (RootPair → Archive) → Type 0) → Type 0
OfTreesAndArchives C =
    (Ps : List Parts) (js : List ℕ) (replicas : Path → Replica) (archives : RootPair → Archive)
    → AreProfiles Ps → ((r : Path) → IsTree (replicas r)) → C Ps js replicas archives

-- If each job that has a turn is done in the end, the claim holds.
abbrev pub IfAllAreDone : List Parts → List ℕ → (Path → Replica) → (RootPair → Archive) → Type 0
    → Type 0
IfAllAreDone Ps js replicas archives C =
    ((j : ℕ) → list_any (λ i. i == j) js ≡ true
    → (run Ps js (opening replicas archives)).done j ≡ true) → C

-- The jobs of a schedule, in the order of their first turns, each synchronize what the ones before
-- left; and that is what the schedule leaves.
abbrev pub LeaveSyncsInTurn : List Parts → List ℕ → (Path → Replica) → (RootPair → Archive) → Type 0
LeaveSyncsInTurn Ps js replicas archives =
    AreSyncsInTurn Ps (jobs_in_order js) (opening replicas archives)
    (run Ps js (opening replicas archives))

-- The jobs of a schedule, in the order of their first turns, work one after another; and what they
-- leave is what the schedule leaves.
abbrev pub LeaveWorkInTurn : List Parts → List ℕ → (Path → Replica) → (RootPair → Archive) → Type 0
LeaveWorkInTurn Ps js replicas archives =
    WorkInTurn Ps (λ j. length (own_turns j js)) (run Ps js (opening replicas archives))
    (jobs_in_order js) (opening replicas archives)

-- A job that has made no operation, and isn't done.
pub record IsFresh (w : World) (j : ℕ) : Type 0 where
  pub log : w.log j ≡ []
  pub done : w.done j ≡ false

-- If a fresh job has more turns in a row than any synchronization of its replicas takes, it is done.
abbrev pub EnoughTurnsSuffice : List Parts → Parts → ℕ → ℕ → World → Type 0
EnoughTurnsSuffice Ps P j n w =
    IsFresh w j → IsTree (w.replica (root_at P Left)) → IsTree (w.replica (root_at P Right))
    → turns_bound P (w.replica (root_at P Left)) (w.replica (root_at P Right)) < n
    → (run Ps (replicate n j) w).done j ≡ true

-- While a job isn't done, and none of the jobs that have turns clashes with it, the claim holds of
-- the archive of its start, of the one that stands there now, and of its log.
abbrev pub OfItsArchives : List Parts → Parts → ℕ → List ℕ → World
    → (Archive → Archive → List Logged → Type 0) → Type 0
OfItsArchives Ps P j js w C =
    NoneClashesWith Ps j js → (run Ps js w).done j ≡ false
    → C (archive_for P w) (archive_for P (run Ps js w)) ((run Ps js w).log j)

-- No run of jobs one after another, each with as many turns as you like, leaves the world that this
-- schedule leaves.
abbrev pub IsNotSerializable : List Parts → List ℕ → (Path → Replica) → (RootPair → Archive)
    → Type 0
IsNotSerializable Ps js replicas archives =
    (jobs : List ℕ) (turns : ℕ → ℕ) → AreDistinct jobs
    → run Ps js (opening replicas archives)
    ≢ run Ps (serial_turns turns jobs) (opening replicas archives)
