-- What jobs leave of a state one after another, in the order of their profiles.
use Rattle.std.specs.Prelude.{◌≡◌, ◌≢◌, ℕ, false, List, [], ◌∷◌, is_some, length, replicate, slice_get, Some, IsTrue}
use Rattle.std.specs.List.{list_any, range_with_len}
use Rattle.hub_path.specs.Path.{Path, is_place}
use Rattle.hub_profile.specs.Parts.{Parts}
use Rattle.hub_reach.specs.Reach.{has_root}
use Rattle.hub_state.specs.State.{State, replica_at}
use Rattle.hub_job.specs.declared.job_end.End.TheVariants as end
use Rattle.hub_job.specs.declared.job_end.JobEnd.{JobEnd}
use Rattle.hub_job.specs.declared.outcome.Outcome.{Outcome}
use Rattle.hub_job.specs.Job.{is_refused}
use Rattle.hub_job.specs.Outcome.{ArchivesAreThere}
use Rattle.hub_serial.specs.Serial.{IsSyncOf}
use Rattle.hub_serial.specs.World.{World, run}
use Rattle.hub_starter.specs.Opened.{opening_of, world_of}

-- One job's part: it works on what stands there before, and ends so.
pub record IsPartOf (Ps : List Parts) (j : ℕ) (P : Parts) (e : JobEnd) (before after : World) :
    Type 0 where
  -- It leaves what some turns of it leave, while no other job has any: so replicas of other roots,
  -- other archives and other jobs stay.
  pub turns : ℕ
  pub alone : after ≡ run Ps (replicate turns j) before
  pub log : e.log ≡ after.log j
  pub items : e.items ≡ after.items j
  -- Nothing was refused to it.
  pub ok : list_any (λ l. is_refused l.step.answer) e.log ≡ false
  -- If it is finished, it has synchronized: `contents` and `marks` of `IsSyncOf` are those of one
  -- synchronization of what stood there.
  pub finished : e.end ≡ end.Finished → IsSyncOf P j before after
  -- Else all archives stay.
  pub stopped : e.end ≢ end.Finished → after.archive ≡ before.archive
  -- Replicas of other roots stay.
  pub others : (r : Path) → has_root P r ≡ false → after.replica r ≡ before.replica r

-- The jobs of these numbers one after another, each on what the ones before it left.
abbrev pub PartsInOrder : List Parts → List JobEnd → List ℕ → World → World → Type 0
PartsInOrder Ps jobs [] before last = before ≡ last
PartsInOrder Ps jobs (j ∷ js) before last =
    (P : Parts) × (e : JobEnd) × (after : World) × (slice_get Ps j ≡ Some P)
    × (slice_get jobs j ≡ Some e) × IsPartOf Ps j P e before after
    × PartsInOrder Ps jobs js after last

-- The replicas that are there are those that were; the archives that are there are those that were,
-- and that of each pair with a finished job.
pub record KeepsWhatIsThere (S : State) (Ps : List Parts) (o : Outcome) : Type 0 where
  pub replicas : (r : Path) → IsTrue (is_place r)
      → is_some (replica_at o.state r) ≡ is_some (replica_at S r)
  pub archives : ArchivesAreThere S Ps o

-- The outcome is that of the jobs one after another, in the order of their profiles: the first one
-- works on the state, and what the last one leaves is the outcome.
pub record IsSerial (S : State) (Ps : List Parts) (o : Outcome) : Type 0 where
  pub all : length o.jobs ≡ length Ps
  pub parts : PartsInOrder Ps o.jobs (range_with_len 0 (length Ps)) (opening_of S)
      (world_of o.state o.jobs)
  pub kept : KeepsWhatIsThere S Ps o
