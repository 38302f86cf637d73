-- Books and jobs, put in order.
use Rattle.std.specs.Prelude.{◌≡◌, ◌<◌, ℕ, Bool, false, List, [], All, length, map, filter, slice_get, IsTrue, Some}
use Rattle.std.specs.List.{list_any}
use Rattle.hub_path.specs.Path.{Path}
use Rattle.hub_profile.specs.Parts.{Parts}
use Rattle.hub_reach.specs.Reach.{has_root}
use Rattle.hub_tree.specs.Tree.{Replica}
use Rattle.hub_job.specs.JobValue.{JobValue}
use Rattle.hub_job.specs.Run.{Runs}
use Rattle.hub_history.specs.Book.{BookValue, IsBook}
use Rattle.hub_schedule.specs.declared.slot.WorkingTree.{WorkingTree}

-- A root and its replica.
abbrev pub of_tree : WorkingTree → Path × Replica
of_tree t = (t.root.now, t.tree)

abbrev pub of_book : BookValue → Path × Replica
of_book B = (B.root, B.tree)

-- The profile hasn't this root; or it has it, and its own one is equal.
abbrev pub Lacks : Parts → Path → Type 0
Lacks P r = has_root P r ≡ false

abbrev pub IsRootOf : Parts → Path → Path → Type 0
IsRootOf P r own = (own ≡ r) × IsTrue (has_root P r)

-- The same of several profiles: none has it, or one.
abbrev pub is_due_at : List Parts → Path → Bool
is_due_at Ps r = list_any (λ P. has_root P r) Ps

abbrev pub NoneHas : List Parts → Path → Type 0
NoneHas Ps r = is_due_at Ps r ≡ false

abbrev pub IsRootIn : List Parts → Path → Path → Type 0
IsRootIn Ps r own = (own ≡ r) × IsTrue (is_due_at Ps r)

-- Whether the book is that of a root of the profiles.
abbrev pub is_due : List Parts → BookValue → Bool
is_due Ps B = is_due_at Ps B.root

-- The replicas of those books, in their order.
pub record AreTreesOf (Ps : List Parts) (books : List BookValue) (trees : List WorkingTree) :
    Type 0 where
  pub values : map of_tree trees ≡ map of_book (filter (is_due Ps) books)
  pub legal : All IsBook (filter (is_due Ps) books)

-- A job of a list, whose log is a run.
pub record IsJobOf (jobs : List JobValue) (J : JobValue) : Type 0 where
  pub place : ℕ
  pub there : slice_get jobs place ≡ Some J
  pub run : Runs J.profile J.archive J.number [] J.log

-- The jobs of the first n numbers, in order.
pub record AreInOrder (n : ℕ) (jobs ordered : List JobValue) : Type 0 where
  pub each : (j : ℕ) (J : JobValue) → slice_get ordered j ≡ Some J → IsJobOf jobs J × (J.number ≡ j)
  pub count : length ordered ≡ n

-- Each number of a job is below n, and each number below n is that of a job.
pub record AreNumbered (n : ℕ) (jobs : List JobValue) : Type 0 where
  pub below : (k : ℕ) (J : JobValue) → slice_get jobs k ≡ Some J → J.number < n
  pub all : (j : ℕ) → j < n → (k : ℕ) × (J : JobValue) × (slice_get jobs k ≡ Some J)
      × (J.number ≡ j)
