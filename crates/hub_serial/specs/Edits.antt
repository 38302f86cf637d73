-- People who edit files while jobs run.
use Rattle.std.specs.Prelude.{◌≡◌, ◌<◌, ◌⊎◌, ℕ, true, false, List, [], ◌∷◌, length, replicate, slice_get, Option, Some, None, IsTrue, if◌then◌else◌}
use Rattle.std.specs.List.{list_any}
use Rattle.hub_path.specs.Path.{Path, path_eq}
use Rattle.hub_path.specs.declared.side.Side.{Side}
use Rattle.hub_path.specs.declared.side.Side.TheVariants.{Left, Right}
use Rattle.hub_profile.specs.Parts.{Parts, IsProfile}
use Rattle.hub_reach.specs.Reach.{has_root}
use Rattle.hub_reach.specs.Safe.{Clash}
use Rattle.hub_tree.specs.Tree.{Archive, IsTree, Replica, with_contents}
use Rattle.hub_tree.specs.declared.contents.Contents.{Contents}
use Rattle.hub_job.specs.Alike.{Depends}
use Rattle.hub_job.specs.Job.{is_refused}
use Rattle.hub_job.specs.Run.{root_at, turns_bound}
use Rattle.hub_job.specs.Same.{own_turns}
use Rattle.hub_serial.specs.Schedule.{after_turns, jobs_in_order}
use Rattle.hub_serial.specs.Serial.{IsSyncOf}
use Rattle.hub_serial.specs.World.{RootPair, World, opening, turn_of}

-- A job of a profile; or an edit: someone puts contents at a path of a root.
pub data Actor : Type 0 where
  Job : Parts → Actor
  Edit : Path → Path → Contents → Actor

-- The world after an edit: whatever was there.
abbrev pub with_edit : Path → Path → Contents → World → World
with_edit r p c w = record {
  replica = λ s. if path_eq r s then with_contents (w.replica s) p c else w.replica s;
  archive = w.archive;
  log = w.log;
  done = w.done;
  items = w.items;
}

abbrev pub actor_turn_of : ℕ → World → Option Actor → World
actor_turn_of j w None = w
actor_turn_of j w (Some (Job P)) = turn_of j w (Some P)
actor_turn_of j w (Some (Edit r p c)) = with_edit r p c w

-- A turn of an actor is a turn of its job, or its edit.
unfoldable pub actor_turn : List Actor → ℕ → World → World
actor_turn As j w = actor_turn_of j w (slice_get As j)

-- The world after turns and edits, in which each number is an actor's.
abbrev pub run_with_edits : List Actor → List ℕ → World → World
run_with_edits As js w = after_turns (actor_turn As) js w

-- Two jobs clash by their profiles; a job and an edit of a path that its answers depend on, at a root
-- of its; and two edits of one path.
abbrev pub MustKeepOrder : Actor → Actor → Type 0
MustKeepOrder (Job P) (Job Q) = Clash P Q ⊎ Clash Q P
MustKeepOrder (Job P) (Edit r p c) = IsTrue (has_root P r) × Depends P r p
MustKeepOrder (Edit r p c) (Job P) = IsTrue (has_root P r) × Depends P r p
MustKeepOrder (Edit r p c) (Edit s q d) = (r ≡ s) × (p ≡ q)

abbrev pub ActorsClash : List Actor → ℕ → ℕ → Type 0
ActorsClash As i k =
    (a b : Actor) × (slice_get As i ≡ Some a) × (slice_get As k ≡ Some b) × MustKeepOrder a b

-- Profiles as they are read, and edits of paths.
abbrev pub IsActor : Actor → Type 0
IsActor (Job P) = IsProfile P
IsActor (Edit r p c) = 0 < length p

abbrev pub AreActors : List Actor → Type 0
AreActors As = (j : ℕ) (a : Actor) → slice_get As j ≡ Some a → IsActor a

-- The actor is the job of a profile, and finds trees at its two roots.
pub record FindsTrees (As : List Actor) (j : ℕ) (P : Parts) (w : World) : Type 0 where
  pub job : slice_get As j ≡ Some (Job P)
  pub trees : (k : Side) → IsTree (w.replica (root_at P k))

-- An actor's own part of a run that comes to the end: what it leaves is what so many turns of it
-- leave, if no other actor has a turn. Its log, whether it is done, and its items stay to the end. A
-- job that finds trees is refused nothing. If it is done, it has synchronized. If it has more turns
-- than any synchronization of what it finds takes, it is done.
pub record IsPartOf (As : List Actor) (j n : ℕ) (before after end : World) : Type 0 where
  pub alone : after ≡ run_with_edits As (replicate n j) before
  pub log : end.log j ≡ after.log j
  pub done : end.done j ≡ after.done j
  pub items : end.items j ≡ after.items j
  pub ok : (P : Parts) → FindsTrees As j P before
      → list_any (λ e. is_refused e.step.answer) (after.log j) ≡ false
  pub sync : (P : Parts) → FindsTrees As j P before → after.done j ≡ true
      → IsSyncOf P j before after
  pub enough : (P : Parts) → FindsTrees As j P before
      → turns_bound P (before.replica (root_at P Left)) (before.replica (root_at P Right)) < n
      → after.done j ≡ true

-- Each of these actors has its part in what the ones before it left, with so many turns.
abbrev pub PartsInTurn : List Actor → (ℕ → ℕ) → World → List ℕ → World → Type 0
PartsInTurn As turns end [] before = before ≡ end
PartsInTurn As turns end (j ∷ js) before =
    (after : World) × IsPartOf As j (turns j) before after end × PartsInTurn As turns end js after

-- The actors of a schedule, in the order of their first turns, have their parts one after another;
-- and what they leave is what the schedule leaves.
abbrev pub LeavePartsInTurn : List Actor → List ℕ → (Path → Replica) → (RootPair → Archive)
    → Type 0
LeavePartsInTurn As js replicas archives =
    PartsInTurn As (λ j. length (own_turns j js)) (run_with_edits As js (opening replicas archives))
    (jobs_in_order js) (opening replicas archives)
