-- What the jobs of a set leave, whatever the order of their turns. Each clause can be read by
-- itself.
use Rattle.std.specs.Prelude.{◌≡◌, ◌≢◌, ℕ, false, List, [], ◌∷◌, ◌++◌, length, replicate, slice_get, Some, IsTrue}
use Rattle.std.specs.List.{list_any}
use Rattle.hub_path.specs.Path.{Path}
use Rattle.hub_profile.specs.Parts.{Parts}
use Rattle.hub_reach.specs.Reach.{reach, may_at, has_root, PassesThrough}
use Rattle.hub_reach.specs.Safe.{Rule}
use Rattle.hub_tree.specs.Tree.{Replica, contents_at, mark_at, mark_of}
use Rattle.hub_tree.specs.declared.contents.Contents.{Contents}
use Rattle.hub_reconcile.specs.Items.{verb_of}
use Rattle.hub_job.specs.declared.log.Entry.{Entry}
use Rattle.hub_job.specs.declared.log.Logged.{Logged}
use Rattle.hub_job.specs.declared.op.Op.TheVariants.{Set}
use Rattle.hub_job.specs.World.{Jobs, alone, log_of, opening, run, run_from}
use Rattle.hub_job.specs.History.{replay}
use Rattle.hub_schedule.specs.Settled.{AtRootsOfJobs}

-- What a root's history leaves of its replica.
abbrev pub left_at : (Path → Replica) → (Path → List Entry) → Path → Replica
left_at replicas histories r = replay (replicas r) (histories r)

-- The replica of a root after n turns of a job in a world where it alone takes turns.
abbrev pub alone_at : Jobs → (Path → Replica) → ℕ → ℕ → Path → Replica
alone_at J replicas j n r = (run J (replicate n j) (opening J replicas)).replica r

-- Each log is the one that its job gets alone, in as many turns as the log has entries.
abbrev pub LogsAreAlone : Jobs → (Path → Replica) → (ℕ → List Logged) → Type 0
LogsAreAlone J replicas logs =
    (j : ℕ) (P : Parts) → slice_get J.profiles j ≡ Some P
    → logs j ≡ alone J replicas j (length (logs j))

-- No operation of a job changes a path that another job of the root passes through. A job passes
-- through each path that it reaches.
abbrev pub OthersAreLeftAlone : Jobs → (Path → Replica) → (Path → List Entry) → Type 0
OthersAreLeftAlone J replicas histories =
    (j : ℕ) (P : Parts) (r q : Path) (front rest : List Entry) (e : Entry)
    → slice_get J.profiles j ≡ Some P → IsTrue (has_root P r)
    → histories r ≡ front ++ e ∷ rest → e.job ≢ j → PassesThrough P q
    → contents_at (replay (replicas r) (front ++ e ∷ [])) q
    ≡ contents_at (replay (replicas r) front) q

-- On the paths that a job reaches, each of its replicas is as if the job alone had taken turns, as
-- many as its log has entries.
abbrev pub OwnPathsAreAlone : Jobs → (Path → Replica) → (Path → Replica) → (ℕ → List Logged)
    → Type 0
OwnPathsAreAlone J before after logs =
    (j : ℕ) (P : Parts) (r q : Path) → slice_get J.profiles j ≡ Some P → IsTrue (has_root P r)
    → IsTrue (reach P q)
    → contents_at (after r) q ≡ contents_at (alone_at J before j (length (logs j)) r) q

-- No job of the root reaches the path.
abbrev pub NobodyReaches : List Parts → Path → Path → Type 0
NobodyReaches Ps r q =
    (j : ℕ) (P : Parts) → slice_get Ps j ≡ Some P → IsTrue (has_root P r) → reach P q ≡ false

-- In the replica of a root, each path that no job of the root reaches is as it was.
abbrev pub ElsewhereIsAsBefore : List Parts → Path → Replica → Replica → Type 0
ElsewhereIsAsBefore Ps r before after =
    (q : Path) → NobodyReaches Ps r q → contents_at after q ≡ contents_at before q

-- No rule at this root that forbids changes of this kind matches the path.
abbrev pub NoRuleForbids : List Rule → Path → Contents → Contents → Path → Type 0
NoRuleForbids Rs r old new p =
    (k : ℕ) (R : Rule) → slice_get Rs k ≡ Some R → R.root ≡ r
    → R.verb ≡ verb_of (mark_of old) (mark_of new) → R.matches p ≡ false

-- Each Set creates, updates or deletes what its job's profile allows there, judged by the contents
-- that it finds, and no rule forbids it.
abbrev pub SetsAreAllowed : List Parts → List Rule → (Path → Replica) → (Path → List Entry) → Type 0
SetsAreAllowed Ps Rs replicas histories =
    (Q : Parts) (r p : Path) (c : Contents) (front rest : List Entry) (e : Entry)
    → histories r ≡ front ++ e ∷ rest → slice_get Ps e.job ≡ Some Q → IsTrue (has_root Q r)
    → e.op ≡ Set p c
    → IsTrue (may_at Q r p (verb_of (mark_at (replay (replicas r) front) p) (mark_of c)))
    × NoRuleForbids Rs r (contents_at (replay (replicas r) front) p) c p

-- After these turns each path of the root that no job of the root reaches is as it was.
abbrev pub ElsewhereStays : Jobs → (Path → Replica) → List ℕ → Path → Type 0
ElsewhereStays J replicas js r =
    ElsewhereIsAsBefore J.profiles r (replicas r) ((run_from J replicas js).replica r)

-- After these turns each job's own paths are as if it had been alone.
abbrev pub OwnPathsStay : Jobs → (Path → Replica) → List ℕ → Type 0
OwnPathsStay J replicas js =
    OwnPathsAreAlone J replicas (run_from J replicas js).replica (log_of (run_from J replicas js))

-- After these turns no job has changed what another one passes through, and no replica of another
-- root has changed.
abbrev pub OthersStay : Jobs → (Path → Replica) → List ℕ → Type 0
OthersStay J replicas js = OthersAreLeftAlone J replicas (run_from J replicas js).history

abbrev pub ForeignStay : Jobs → (Path → Replica) → List ℕ → Type 0
ForeignStay J replicas js =
    (r : Path) → list_any (λ P. has_root P r) J.profiles ≡ false
    → (run_from J replicas js).replica r ≡ replicas r

-- The claim holds of each root of a job.
abbrev pub AtRoots : List Parts → (Path → Type 0) → Type 0
AtRoots Ps C =
    (j : ℕ) (P : Parts) (r : Path) → slice_get Ps j ≡ Some P → IsTrue (has_root P r) → C r

-- What histories leave of each job's own paths is as if the job had been alone.
abbrev pub OwnPathsAreLeftAlone : Jobs → (Path → Replica) → (Path → List Entry)
    → (ℕ → List Logged) → Type 0
OwnPathsAreLeftAlone J replicas histories logs =
    OwnPathsAreAlone J replicas (left_at replicas histories) logs

-- Where histories and logs fit together, the claim holds of the replica of each job's root before
-- and after.
abbrev pub OfRootsLeft : (List Parts → Path → Replica → Replica → Type 0) → Type 0
OfRootsLeft C =
    AtRootsOfJobs
    (λ J replicas histories r. C J.profiles r (replicas r) (left_at replicas histories r))
