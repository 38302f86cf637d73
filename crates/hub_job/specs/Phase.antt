-- How far a job is, against its log.
use Rattle.std.specs.Prelude.{◌≡◌, ◌≤◌, ◌+◌, ◌-◌, Bool, true, false, not, ◌&&◌, List, [], ◌++◌, drop, take, length, slice_get, Option, Some, None, if◌then◌else◌}
use Rattle.std.specs.List.{list_any, list_all}
use Rattle.hub_path.specs.Path.{Name, Path, children_named}
use Rattle.hub_path.specs.declared.side.Side.{Side}
use Rattle.hub_path.specs.declared.side.Side.TheVariants.{Left, Right}
use Rattle.hub_profile.specs.Parts.{Parts, some_passes}
use Rattle.hub_tree.specs.Tree.{Archive}
use Rattle.hub_reconcile.specs.Picture.{needed}
use Rattle.hub_job.specs.declared.op.Op.{Op}
use Rattle.hub_job.specs.declared.op.Op.TheVariants.{Look, Fetch, Set}
use Rattle.hub_job.specs.declared.op.Next.{Next}
use Rattle.hub_job.specs.declared.op.Next.TheVariants.{Ask, Finished, Stopped}
use Rattle.hub_job.specs.declared.answer.Answer.{Answer}
use Rattle.hub_job.specs.declared.answer.Answer.TheVariants.{Seen, Bytes, Done, Refused}
use Rattle.hub_job.specs.declared.asked.Asked.{Asked}
use Rattle.hub_job.specs.declared.log.Logged.{Logged}
use Rattle.hub_job.specs.declared.looks.Looks.{Looks}
use Rattle.hub_job.specs.declared.steps.Steps.{Steps}
use Rattle.hub_job.specs.declared.phase.Phase.{Phase}
use Rattle.hub_job.specs.declared.phase.Phase.TheVariants as phase
use Rattle.hub_job.specs.Job.{sights, view_in, is_refused, is_look, fetched_last, steps, steps_made, ask, next}
use Rattle.hub_job.specs.forms.Waiting.{put_all}
use Rattle.hub_reconcile.specs.Merge.{seen_paths}

-- Of the Looks that a side needs, all but these have been made.
abbrev pub IsWaiting : Parts → List Logged → Side → List Path → Type 0
IsWaiting P log side ps = needed P (sights log side) ≡ seen_paths (sights log side) ++ ps

-- No Look waits, on either side.
abbrev pub NoneWaits : Parts → List Logged → Type 0
NoneWaits P log = IsWaiting P log Left [] × IsWaiting P log Right []

-- The names that an answer lists.
abbrev pub names_listed : Answer → List Name
names_listed (Seen s) = s.names
names_listed (Bytes b) = []
names_listed Done = []
names_listed (Refused f) = []

-- The Looks that an answer makes needed.
abbrev pub listed_by : Op → Answer → List Path
listed_by (Look d) a = children_named d (names_listed a)
listed_by (Fetch p) a = []
listed_by (Set p c) a = []

-- What waits after the first Look was answered.
abbrev pub told_to : List Path → Op → Answer → List Path
told_to ps op a = put_all (drop 1 ps) (listed_by op a)

abbrev pub told_on : Side → Looks → Op → Answer → Looks
told_on Left l op a = record l { left = told_to l.left op a; told = l.told + 1 }
told_on Right l op a = record l { right = told_to l.right op a; told = l.told + 1 }

-- The Looks after one more entry of the log, if there is one.
abbrev pub told_more : Looks → Option Logged → Looks
told_more l None = l
told_more l (Some e) = told_on e.side l e.step.op e.step.answer

-- The first Look that waits, Left first.
abbrev pub look_at : Side → Option Path → Option Next → Option Next
look_at side None o = o
look_at side (Some p) o = Some (Ask side (Look p))

abbrev pub first_look : Looks → Option Next
first_look l = look_at Left (slice_get l.left 0) (look_at Right (slice_get l.right 0) None)

abbrev pub are_looks : List Logged → Bool
are_looks log = list_all (λ e. is_look e.step.op && not (is_refused e.step.answer)) log

-- The log is one of Looks, and these wait after it.
pub record AreLooks (P : Parts) (log : List Logged) (l : Looks) : Type 0 where
  pub looks : are_looks log ≡ true
  pub left : IsWaiting P log Left l.left
  pub right : IsWaiting P log Right l.right

-- The same after all entries but the last, or after all.
pub record AreLooksOf (P : Parts) (log : List Logged) (l : Looks) : Type 0 where
  pub looks : are_looks log ≡ true
  pub told : AreLooks P (take l.told log) l
  pub within : l.told ≤ length log
  pub one : length log ≤ l.told + 1

-- Whether the last answer is a refusal.
abbrev pub last_refused : List Logged → Bool
last_refused log = some_passes (λ e. is_refused e.step.answer) (slice_get log (length log - 1))

-- All Looks were made, these are the steps after them, and only the last answer may be a refusal.
pub record AreSteps (P : Parts) (O : Archive) (log : List Logged) (s : Steps) : Type 0 where
  pub steps : s.steps ≡ steps (view_in P O log)
  pub made : steps_made log + s.looks ≡ length log
  pub left : IsWaiting P log Left []
  pub right : IsWaiting P log Right []
  pub refused : list_any (λ e. is_refused e.step.answer) log ≡ last_refused log

-- A job that was stopped from outside, or found no memory, follows nothing.
abbrev pub Follows : Parts → Archive → List Logged → Phase → Type 0
Follows P O log (phase.Looking l) = AreLooksOf P log l
Follows P O log (phase.Making s) = AreSteps P O log s
Follows P O log phase.Stopped = Unit {0}

-- What was asked is a Look, and all before it was told; or a step.
abbrev pub IsAskedIn : List Logged → Phase → Option Asked → Type 0
IsAskedIn log phase None = Unit {0}
IsAskedIn log (phase.Looking l) (Some a) = (is_look a.op ≡ true) × (l.told ≡ length log)
IsAskedIn log (phase.Making s) (Some a) = is_look a.op ≡ false
IsAskedIn log phase.Stopped (Some a) = ⊥

abbrev pub is_stopped : Phase → Bool
is_stopped (phase.Looking l) = false
is_stopped (phase.Making s) = false
is_stopped phase.Stopped = true

-- What is asked, if a job does this next.
abbrev pub asked_by : Next → Option Asked
asked_by (Ask side op) = Some (record { side = side; op = op })
asked_by Finished = None
asked_by Stopped = None

-- What a job does next in this phase.
abbrev pub IsNextIn : Parts → Archive → List Logged → Phase → Next → Type 0
IsNextIn P O log (phase.Looking l) n = n ≡ next P O log
IsNextIn P O log (phase.Making s) n = n ≡ next P O log
IsNextIn P O log phase.Stopped n = n ≡ Stopped

-- It does this next, in a phase that follows the log.
pub record IsNext (P : Parts) (O : Archive) (log : List Logged) (p : Phase) (n : Next) :
    Type 0 where
  pub next : IsNextIn P O log p n
  pub follows : Follows P O log p
  pub asked : IsAskedIn log p (asked_by n)
  pub finished : n ≡ Finished → NoneWaits P log

-- What is next of these steps.
abbrev pub next_step : Steps → List Logged → Next
next_step s log =
    if last_refused log then Stopped else ask (fetched_last [] log)
    (slice_get s.steps (length log - s.looks))
