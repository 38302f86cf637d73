-- A book as contracts see it: the replica of a root, with all that jobs did on it.
use Rattle.std.specs.Prelude.{◌≡◌, ℕ, Bool, false, List, [], ◌∷◌, ◌++◌, slice_get}
use Rattle.hub_path.specs.Path.{Path}
use Rattle.hub_profile.specs.Parts.{Parts, some_passes}
use Rattle.hub_reach.specs.Reach.{has_root}
use Rattle.hub_tree.specs.Tree.{Replica}
use Rattle.hub_job.specs.declared.answer.Answer.{Answer}
use Rattle.hub_job.specs.declared.log.Entry.{Entry}
use Rattle.hub_job.specs.declared.op.Op.{Op}
use Rattle.hub_job.specs.Machine.{after}
use Rattle.hub_job.specs.History.{replay, IsAnswerOf, IsLegal}

-- The profiles of the set that it was made for, its root, the replica at the opening and now, and
-- all operations since the opening, with their answers, in order.
pub record BookValue : Type 0 where
  pub profiles : List Parts
  pub root : Path
  pub opening : Replica
  pub tree : Replica
  pub history : List Entry

-- The history is legal, and leads from the opening to the replica.
pub record IsBook (B : BookValue) : Type 0 where
  pub legal : IsLegal B.profiles B.root B.opening B.history
  pub replays : B.tree ≡ replay B.opening B.history

-- A book without entries.
abbrev pub new_book : List Parts → Path → Replica → BookValue
new_book Ps r m = record { profiles = Ps; root = r; opening = m; tree = m; history = [] }

-- Whether there is a profile of that number, and it has the root.
abbrev pub has_job : List Parts → Path → ℕ → Bool
has_job Ps r j = some_passes (λ P. has_root P r) (slice_get Ps j)

abbrev pub entry_of : ℕ → Op → Answer → Entry
entry_of j op a = record { job = j; op = op; answer = a }

-- The book with one operation more.
abbrev pub with_entry : BookValue → Entry → BookValue
with_entry B e = record B { tree = after B.tree e.op; history = B.history ++ e ∷ [] }

-- The book gives this answer to the job's operation.
abbrev pub BookAnswers : BookValue → ℕ → Op → Answer → Type 0
BookAnswers B job op a =
    IsAnswerOf B.root B.tree (entry_of job op a) (slice_get B.profiles job)

-- No profile of that number has the book's root.
abbrev pub IsForeign : BookValue → ℕ → Type 0
IsForeign B job = has_job B.profiles B.root job ≡ false
