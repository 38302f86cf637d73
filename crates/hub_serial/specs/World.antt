-- Jobs that start at any time, on shared replicas and shared archives.
use Rattle.std.specs.Prelude.{ℕ, ◌==◌, Bool, true, false, ◌&&◌, List, [], ◌∷◌, ◌++◌, slice_get, Option, Some, None, if◌then◌else◌}
use Rattle.std.specs.Ordering.{is_lt}
use Rattle.hub_path.specs.Path.{Path, path_cmp, path_eq}
use Rattle.hub_path.specs.declared.side.Side.{Side}
use Rattle.hub_path.specs.declared.side.Side.TheVariants.{Left, Right}
use Rattle.hub_profile.specs.Parts.{Parts, at_side}
use Rattle.hub_tree.specs.Tree.{Replica, Archive}
use Rattle.hub_reconcile.specs.Items.{items}
use Rattle.hub_reconcile.specs.declared.item.Item.{Item}
use Rattle.hub_job.specs.declared.op.Op.{Op}
use Rattle.hub_job.specs.declared.op.Next.{Next}
use Rattle.hub_job.specs.declared.op.Next.TheVariants.{Ask, Finished, Stopped}
use Rattle.hub_job.specs.declared.log.Logged.{Logged}
use Rattle.hub_job.specs.Machine.{after}
use Rattle.hub_job.specs.Job.{next, view_in}
use Rattle.hub_job.specs.Ends.{archive_after}
use Rattle.hub_job.specs.Run.{root_at, logged}
use Rattle.hub_serial.specs.Schedule.{after_turns}

-- Two roots, the lesser one first: each pair of roots has one archive.
abbrev pub RootPair : Type 0
RootPair = Path × Path

abbrev pub sorted_pair : Path → Path → RootPair
sorted_pair r s = if is_lt (path_cmp s r) then (s, r) else (r, s)

-- The roots of a profile, whichever is left.
abbrev pub pair_of : Parts → RootPair
pair_of P = sorted_pair (root_at P Left) (root_at P Right)

abbrev pub pair_eq : RootPair → RootPair → Bool
pair_eq k l = path_eq k.0 l.0 && path_eq k.1 l.1

-- The replica of each root, the archive of each pair of roots, the log of each job, which jobs are
-- done (their marks are in their archives), and the items of those that are.
pub record World : Type 0 where
  pub replica : Path → Replica
  pub archive : RootPair → Archive
  pub log : ℕ → List Logged
  pub done : ℕ → Bool
  pub items : ℕ → List Item

-- The archive of a profile's pair, as it stands.
abbrev pub archive_for : Parts → World → Archive
archive_for P w = w.archive (pair_of P)

-- No job has had a turn.
abbrev pub opening : (Path → Replica) → (RootPair → Archive) → World
opening replicas archives = record {
  replica = replicas;
  archive = archives;
  log = λ j. [];
  done = λ j. false;
  items = λ j. [];
}

-- The log of a job, and of no other one, with one more entry.
abbrev pub with_entry : (ℕ → List Logged) → ℕ → Logged → ℕ → List Logged
with_entry logs j e i = if i == j then logs i ++ e ∷ [] else logs i

-- The world after the operation of a job on the replica of a root.
abbrev pub event : Parts → ℕ → Side → Op → World → Option Path → World
event P j side op w None = w
event P j side op w (Some r) = record {
  replica = λ s. if path_eq r s then after (w.replica s) op else w.replica s;
  archive = w.archive;
  log = with_entry w.log j (logged P j side op (w.replica (root_at P side)));
  done = w.done;
  items = w.items;
}

-- The archives with the marks of a finished job: it puts them into the archive of its pair.
abbrev pub with_marks : Parts → List Logged → (RootPair → Archive) → RootPair → Archive
with_marks P log archives =
    λ k. if pair_eq (pair_of P) k then archive_after P (archives k) log else archives k

-- The world after the end of a finished job. Its items are by the archive that it finds then.
abbrev pub ending : Parts → ℕ → World → World
ending P j w = record {
  replica = w.replica;
  archive = with_marks P (w.log j) w.archive;
  log = w.log;
  done = λ i. if i == j then true else w.done i;
  items = λ i. if i == j then items (view_in P (archive_for P w) (w.log j)) else w.items i;
}

abbrev pub act : Parts → ℕ → World → Next → World
act P j w (Ask side op) = event P j side op w (at_side P.roots side)
act P j w Finished = ending P j w
act P j w Stopped = w

-- What a job does next, by the archive that stands there. Once it is done it does nothing.
abbrev pub next_for : Parts → ℕ → World → Next
next_for P j w = if w.done j then Stopped else next P (archive_for P w) (w.log j)

abbrev pub turn_of : ℕ → World → Option Parts → World
turn_of j w None = w
turn_of j w (Some P) = act P j w (next_for P j w)

-- A turn of a job is its next operation, or its end if it has no more to ask. A job that is stopped
-- or done does nothing.
unfoldable pub turn : List Parts → ℕ → World → World
turn Ps j w = turn_of j w (slice_get Ps j)

-- The world after the turns of a schedule, in which each number is a job's.
abbrev pub run : List Parts → List ℕ → World → World
run Ps js w = after_turns (turn Ps) js w
