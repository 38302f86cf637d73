-- A job as contracts see it.
use Rattle.std.specs.Prelude.{◌≡◌, ◌<◌, ℕ, Bool, true, false, List, [], ◌∷◌, ◌++◌, Option, Some, None}
use Rattle.hub_profile.specs.Parts.{Parts}
use Rattle.hub_tree.specs.Tree.{Archive}
use Rattle.hub_job.specs.declared.asked.Asked.{Asked}
use Rattle.hub_job.specs.declared.answer.Answer.{Answer}
use Rattle.hub_job.specs.declared.op.Next.{Next}
use Rattle.hub_job.specs.declared.op.Next.TheVariants.{Ask}
use Rattle.hub_job.specs.declared.phase.Phase.{Phase}
use Rattle.hub_job.specs.Phase.{Follows, IsAskedIn, asked_by, is_stopped}
use Rattle.hub_job.specs.declared.log.Logged.{Logged}
use Rattle.hub_job.specs.Job.{IfAsksNoMore, next}
use Rattle.hub_job.specs.Run.{Runs}

-- Its number, its profile and archive, its log, what it asked and isn't answered yet, and whether
-- it was stopped from outside or found no memory.
pub record JobValue : Type 0 where
  pub number : ℕ
  pub profile : Parts
  pub archive : Archive
  pub log : List Logged
  pub asked : Option Asked
  pub stopped : Bool

-- What was asked is what comes next.
abbrev pub IsAsked : Parts → Archive → List Logged → Option Asked → Type 0
IsAsked P O log None = Unit {0}
IsAsked P O log (Some a) = next P O log ≡ Ask a.side a.op

-- Its log is a run, and what it asked is what comes next.
pub record IsJob (J : JobValue) : Type 0 where
  pub run : Runs J.profile J.archive J.number [] J.log
  pub asked : IsAsked J.profile J.archive J.log J.asked

abbrev pub value_of : ℕ → Parts → Archive → List Logged → Option Asked → Phase → JobValue
value_of j P O log asked p = record {
  number = j;
  profile = P;
  archive = O;
  log = log;
  asked = asked;
  stopped = is_stopped p;
}

-- It is a job, and its phase follows its log.
pub record IsWhole (J : JobValue) (p : Phase) : Type 0 where
  pub job : IsJob J
  pub follows : Follows J.profile J.archive J.log p
  pub asked : IsAskedIn J.log p J.asked

-- Where something was asked, there is room for one more entry.
abbrev pub IsRoomy : Option Asked → ℕ → ℕ → Type 0
IsRoomy None len capacity = Unit {0}
IsRoomy (Some a) len capacity = len < capacity

-- A job that wasn't stopped, has made a step after its Looks and asks for no more isn't stopped by a
-- turn.
abbrev pub EndsUnstopped : JobValue → Bool → Type 0
EndsUnstopped J stopped =
    J.stopped ≡ false → IfAsksNoMore J.profile J.archive J.log (stopped ≡ false)

-- A job that has asked nothing.
abbrev pub new_job : ℕ → Parts → Archive → JobValue
new_job j P O = record {
  number = j;
  profile = P;
  archive = O;
  log = [];
  asked = None;
  stopped = false;
}

-- A job after a turn: it has asked what it does next.
abbrev pub after_turn : JobValue → Bool → Next → JobValue
after_turn J stopped n = record J { asked = asked_by n; stopped = stopped }

-- A log with what was asked and its answer.
abbrev pub log_with : ℕ → List Logged → Option Asked → Answer → List Logged
log_with j log None answer = log
log_with j log (Some a) answer = log ++ record {
  side = a.side;
  step = record { job = j; op = a.op; answer = answer };
} ∷ []

-- The job with an answer to what it asked.
abbrev pub with_answer : JobValue → Asked → Answer → JobValue
with_answer J a answer = record J {
  log = log_with J.number J.log (Some a) answer;
  asked = None;
}

abbrev pub stopped_job : JobValue → JobValue
stopped_job J = record J { asked = None; stopped = true }
