-- Books and jobs that fit together, with a set and with a state.
use Rattle.std.specs.Prelude.{◌≡◌, ◌≢◌, ◌⊎◌, ◌<◌, ◌==◌, ℕ, List, [], ◌∷◌, ◌++◌, All, length, map, find, filter, fold, if◌then◌else◌, slice_get, count_by, Option, Some, None, IsTrue}
use Rattle.std.specs.List.{flat_map, list_any, range_with_len}
use Rattle.hub_path.specs.Path.{Path, path_eq}
use Rattle.hub_profile.specs.Parts.{Parts}
use Rattle.hub_reach.specs.Reach.{has_root}
use Rattle.hub_state.specs.State.{State, replica_at}
use Rattle.hub_job.specs.declared.log.Entry.{Entry}
use Rattle.hub_job.specs.declared.log.Logged.{Logged}
use Rattle.hub_job.specs.declared.outcome.Outcome.{Outcome}
use Rattle.hub_job.specs.declared.run_fault.RunFault.{RunFault}
use Rattle.hub_job.specs.declared.run_fault.RunFault.TheVariants as fault
use Rattle.hub_job.specs.JobValue.{JobValue}
use Rattle.hub_job.specs.Outcome.{archive_of}
use Rattle.hub_history.specs.Book.{BookValue}
use Rattle.hub_job.specs.History.{entries_of, entries_at}
use Rattle.hub_cert.specs.Set.{Members, forbidden_by}
use Rattle.hub_schedule.specs.Promise.{IsAsPromised}
use Rattle.hub_schedule.specs.Simulated.{IsPromised}
use Rattle.hub_schedule.specs.Refusals.{first_missing}
use Rattle.hub_schedule.specs.Ended.{ended_value}

-- The job has the set's profile of its number, and the archive of that profile's roots in the
-- state.
abbrev pub IsMadeFor : State → List Parts → JobValue → Type 0
IsMadeFor S Ps J =
    (slice_get Ps J.number ≡ Some J.profile) × (J.archive ≡ archive_of S (Some J.profile))

-- The number is that of a profile, and not exactly one job has it; or a job has it that isn't made
-- for the set and the state.
abbrev pub IsInconsistent : State → List Parts → List JobValue → ℕ → Type 0
IsInconsistent S Ps jobs j =
    ((j < length Ps) × (count_by (λ J. J.number == j) jobs ≢ 1))
    ⊎ ((k : ℕ) × (J : JobValue) × (slice_get jobs k ≡ Some J) × (J.number ≡ j)
    × ¬ (IsMadeFor S Ps J))

-- Each job is made for the set and the state, and exactly one has the number of each profile.
abbrev pub AreConsistent : State → List Parts → List JobValue → Type 0
AreConsistent S Ps jobs =
    ((k : ℕ) (J : JobValue) → slice_get jobs k ≡ Some J → IsMadeFor S Ps J)
    × ((j : ℕ) → j < length Ps → count_by (λ J. J.number == j) jobs ≡ 1)

abbrev pub IsLowestInconsistent : State → List Parts → List JobValue → ℕ → Type 0
IsLowestInconsistent S Ps jobs j =
    IsInconsistent S Ps jobs j × ((i : ℕ) → i < j → ¬ (IsInconsistent S Ps jobs i))

-- The book was made for the profiles of the set, and opens with the state's replica of its root.
abbrev pub OpensAs : State → List Parts → BookValue → Type 0
OpensAs S Ps B = (B.profiles ≡ Ps) × (replica_at S B.root ≡ Some B.opening)

abbrev pub books_at : List BookValue → Path → List BookValue
books_at books r = filter (λ B. path_eq B.root r) books

-- The root has this book alone; or it has no book, or several.
abbrev pub IsOnlyBook : List BookValue → Path → BookValue → Type 0
IsOnlyBook books r B = books_at books r ≡ B ∷ []

abbrev pub HasNotOneBook : List BookValue → Path → Type 0
HasNotOneBook books r = length (books_at books r) ≢ 1

abbrev pub history_or_none : Option BookValue → List Entry
history_or_none None = []
history_or_none (Some B) = B.history

-- The history of the root's first book.
abbrev pub history_at : List BookValue → Path → List Entry
history_at books r = history_or_none (slice_get (books_at books r) 0)

abbrev pub log_or_nothing : Option JobValue → List Logged
log_or_nothing None = []
log_or_nothing (Some J) = J.log

-- The log of the first job of that number.
abbrev pub log_at : List JobValue → ℕ → List Logged
log_at jobs j = log_or_nothing (find (λ J. J.number == j) jobs)

-- A place of a comparison is a root, and a job or none. With none the root has exactly one book,
-- which was made for the set and the state. With a job that has the root, its entries in the root's
-- history are those of its log there.
abbrev pub Agrees : State → List Parts → List BookValue → List JobValue → Path × Option ℕ → Type 0
Agrees S Ps books jobs (r, None) = (B : BookValue) × IsOnlyBook books r B × OpensAs S Ps B
Agrees S Ps books jobs (r, Some j) =
    (P : Parts) → slice_get Ps j ≡ Some P → IsTrue (has_root P r)
    → entries_of j (history_at books r) ≡ entries_at P r (log_at jobs j)

-- With none the root doesn't have exactly one book, or that wasn't made for the set and the state.
-- With a job: it has the root, and the entries differ.
abbrev pub Disagrees : State → List Parts → List BookValue → List JobValue → Path × Option ℕ
    → Type 0
Disagrees S Ps books jobs (r, None) =
    HasNotOneBook books r
    ⊎ ((B : BookValue) × IsOnlyBook books r B × ¬ (OpensAs S Ps B))
Disagrees S Ps books jobs (r, Some j) =
    (P : Parts) × (slice_get Ps j ≡ Some P) × IsTrue (has_root P r)
    × (entries_of j (history_at books r) ≢ entries_at P r (log_at jobs j))

-- A list with a root appended, unless it is there.
abbrev pub with_new : List Path → Path → List Path
with_new rs r = if list_any (λ s. path_eq s r) rs then rs else rs ++ r ∷ []

-- The roots of the profiles in their order, each once, the left one of a profile first.
abbrev pub roots_of : List Parts → List Path
roots_of Ps = fold (λ rs P. fold with_new rs P.roots) [] Ps

abbrev pub places_at : ℕ → Path → List (Path × Option ℕ)
places_at n r = (r, None) ∷ map (λ j. (r, Some j)) (range_with_len 0 n)

-- The places in the order in which they are compared.
abbrev pub compared_places : List Parts → List (Path × Option ℕ)
compared_places Ps = flat_map (places_at (length Ps)) (roots_of Ps)

-- The place is the first of these that is wrong: those before it are right.
abbrev pub IsFirstMismatch : State → List Parts → List BookValue → List JobValue
    → List (Path × Option ℕ) → Path × Option ℕ → Type 0
IsFirstMismatch S Ps books jobs all at =
    (front rest : List (Path × Option ℕ)) × (all ≡ front ++ at ∷ rest)
    × Disagrees S Ps books jobs at
    × All (Agrees S Ps books jobs) front

-- What is compared.
pub record Compared : Type 0 where
  pub state : State
  pub profiles : List Parts
  pub books : List BookValue
  pub jobs : List JobValue

abbrev pub compared : State → List Parts → List BookValue → List JobValue → Compared
compared S Ps books jobs = record { state = S; profiles = Ps; books = books; jobs = jobs }

-- Each place is right; or that one is the first that is wrong.
abbrev pub NoMismatch : Compared → Type 0
NoMismatch x = All (Agrees x.state x.profiles x.books x.jobs) (compared_places x.profiles)

abbrev pub IsMismatch : Compared → Path × Option ℕ → Type 0
IsMismatch x at = IsFirstMismatch x.state x.profiles x.books x.jobs (compared_places x.profiles) at

-- The same of the places of one root.
abbrev pub NoMismatchAt : Compared → Path → Type 0
NoMismatchAt x r =
    All (Agrees x.state x.profiles x.books x.jobs) (places_at (length x.profiles) r)

abbrev pub IsMismatchAt : Compared → Path → Option ℕ → Type 0
IsMismatchAt x r job =
    IsFirstMismatch x.state x.profiles x.books x.jobs (places_at (length x.profiles) r) (r, job)

-- The profile has the root, and these entries aren't those of the job's log there; or they are, if it
-- has it.
abbrev pub DiffersAt : Parts → Path → List JobValue → ℕ → List Entry → Type 0
DiffersAt P r jobs j done = IsTrue (has_root P r) × (done ≢ entries_at P r (log_at jobs j))

abbrev pub FitsAt : Parts → Path → List JobValue → ℕ → List Entry → Type 0
FitsAt P r jobs j done = IsTrue (has_root P r) → done ≡ entries_at P r (log_at jobs j)

-- The entries that a mismatch shows: of the job in the root's history, and of its log there.
abbrev pub history_shown : List BookValue → Path → Option ℕ → List Entry
history_shown books r None = []
history_shown books r (Some j) = entries_of j (history_at books r)

abbrev pub log_of_job : List JobValue → Path → ℕ → Option Parts → List Entry
log_of_job jobs r j None = []
log_of_job jobs r j (Some P) = entries_at P r (log_at jobs j)

abbrev pub log_shown : List Parts → List JobValue → Path → Option ℕ → List Entry
log_shown Ps jobs r None = []
log_shown Ps jobs r (Some j) = log_of_job jobs r j (slice_get Ps j)

abbrev pub mismatch_shown : List Parts → List BookValue → List JobValue → Path → Option ℕ
    → RunFault
mismatch_shown Ps books jobs r j =
    fault.Mismatch r j (history_shown books r j) (log_shown Ps jobs r j)

-- Why books and jobs aren't settled. The first of these that applies: a replica is missing; a
-- number is inconsistent; a place is wrong. Or there is no memory.
abbrev pub IsUnsettled : State → List Parts → List BookValue → List JobValue → RunFault → Type 0
IsUnsettled S Ps books jobs fault.NoWorkers = ⊥
IsUnsettled S Ps books jobs fault.TooManyWorkers = ⊥
IsUnsettled S Ps books jobs (fault.MissingReplica r) = first_missing S Ps ≡ Some r
IsUnsettled S Ps books jobs (fault.Mismatch r j history log) =
    (first_missing S Ps ≡ None) × AreConsistent S Ps jobs
    × IsFirstMismatch S Ps books jobs (compared_places Ps) (r, j)
    × (history ≡ history_shown books r j) × (log ≡ log_shown Ps jobs r j)
IsUnsettled S Ps books jobs (fault.BadTurn t) = ⊥
IsUnsettled S Ps books jobs fault.ThreadRefused = ⊥
IsUnsettled S Ps books jobs (fault.Stranger j) =
    (first_missing S Ps ≡ None) × IsLowestInconsistent S Ps jobs j
IsUnsettled S Ps books jobs fault.OutOfMemory = Unit {0}

-- Nothing is missing, no number is inconsistent, and no place is wrong.
pub record AreCompared (S : State) (Ps : List Parts) (books : List BookValue)
    (jobs : List JobValue) : Type 0 where
  pub there : first_missing S Ps ≡ None
  pub due : AreConsistent S Ps jobs
  pub right : All (Agrees S Ps books jobs) (compared_places Ps)

-- Each job has ended by its number: as stopped, if it is, and else by its log.
abbrev pub EndAsTheyAre : List JobValue → Outcome → Type 0
EndAsTheyAre jobs o =
    (k : ℕ) (J : JobValue) → slice_get jobs k ≡ Some J
    → slice_get o.jobs J.number ≡ Some (ended_value J)

-- Books and jobs are compared with a set, or not settled.
abbrev pub FitTogether : State → Members → List BookValue → List JobValue → Type 0
FitTogether S M books jobs = AreCompared S M.profiles books jobs

abbrev pub IsUnsettledIn : State → Members → List BookValue → List JobValue → RunFault → Type 0
IsUnsettledIn S M books jobs = IsUnsettled S M.profiles books jobs

-- The outcome is as promised for a set and its rules: with the histories of these books, and with
-- some histories.
abbrev pub IsAsPromisedBy : State → Members → List BookValue → Outcome → Type 0
IsAsPromisedBy S M books =
    IsAsPromised S M.profiles (map forbidden_by M.rules) (history_at books)

abbrev pub IsPromisedFor : State → Members → Outcome → Type 0
IsPromisedFor S M = IsPromised S M.profiles (map forbidden_by M.rules)
