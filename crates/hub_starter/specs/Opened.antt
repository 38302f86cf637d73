-- States and outcomes as worlds, in which jobs take turns.
use Rattle.std.specs.Prelude.{ℕ, suc, Bool, ◌&&◌, List, [], length, Option, Some, None, unwrap_or, slice_get, if◌then◌else◌}
use Rattle.std.specs.FinMap as fin
use Rattle.std.specs.Ordering.{is_lt}
use Rattle.hub_path.specs.Path.{Path, is_place, path_cmp}
use Rattle.hub_profile.specs.Parts.{some_passes}
use Rattle.hub_tree.specs.Tree.{Archive, Replica}
use Rattle.hub_reconcile.specs.declared.item.Item.{Item}
use Rattle.hub_state.specs.State.{State, archive_at}
use Rattle.hub_job.specs.declared.job_end.JobEnd.{JobEnd}
use Rattle.hub_job.specs.Ends.{is_finished}
use Rattle.hub_job.specs.Outcome.{replicas_of}
use Rattle.hub_schedule.specs.Promise.{log_or_none}
use Rattle.hub_serial.specs.World.{RootPair, World, opening}

-- The replica of a root. One that isn't there is empty; so is one at a path that is no place.
abbrev pub replica_in : State → Path → Replica
replica_in S r = if is_place r then replicas_of S r else fin.empty

-- Two different places, the lesser one first.
abbrev pub is_root_pair : RootPair → Bool
is_root_pair k = (is_place k.0 && is_place k.1) && is_lt (path_cmp k.0 k.1)

-- The archive of a pair of roots. One that isn't there has no marks.
abbrev pub archive_in : State → RootPair → Archive
archive_in S k =
    if is_root_pair k then unwrap_or (archive_at S k.0 k.1) fin.empty else fin.empty

-- The world of a state: no job has had a turn.
abbrev pub opening_of : State → World
opening_of S = opening (replica_in S) (archive_in S)

abbrev pub items_of_end : Option JobEnd → List Item
items_of_end None = []
items_of_end (Some e) = e.items

-- The world that an outcome shows: the replicas and archives of its state, and what became of each
-- job.
abbrev pub world_of : State → List JobEnd → World
world_of S jobs = record {
  replica = replica_in S;
  archive = archive_in S;
  log = λ j. log_or_none (slice_get jobs j);
  done = λ j. some_passes (λ e. is_finished e.end) (slice_get jobs j);
  items = λ j. items_of_end (slice_get jobs j);
}

-- As many turns as the log of a job has entries, and one more for its end if it is done.
abbrev pub turns_in : World → ℕ → ℕ
turns_in w j = if w.done j then suc (length (w.log j)) else length (w.log j)
