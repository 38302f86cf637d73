-- What is true of the input if what is written starts so.
use Rattle.std.proofs.Common.{◌≡◌, ◌⊎◌, ℕ, List, ◌++◌, Some, codes}
use Rattle.std.specs.Prelude.{⊤}
use Rattle.hub_report.specs.declared.reach_answer.ReachAnswer.TheVariants.{Reached, NotReached}
use Rattle.hub_report.specs.declared.report.Report.TheVariants as answer
use Rattle.hub_report.specs.laws.Starts.{Start, SafeStart, VerifiedStart, OverlapStart, BreachStart, TooLargeStart, NestedStart}
use Rattle.hub_report.specs.laws.Starts.{RoundsStart, GraphStart, ReachedStart, NotReachedStart, ArchiveStart, PlanStart, OrderStart, OtherStart}
use Rattle.hub_cli.specs.declared.words.Question.TheVariants as ask
use Rattle.hub_cli.specs.declared.words.Reading.{Reading}
use Rattle.hub_cli.specs.Words.{Request, about}
use Rattle.hub_serve.specs.Shown.{FollowsSafe, ShowsArchive, ShowsClashes, ShowsGraph, ShowsPlan, ShowsRounds, ShowsRoundsAlone, ShowsRoundsRun, ShowsRunInOrder, SpellsUnsafe, SpellsVerified}
use Rattle.hub_serve.specs.Told.{IsTrueOf}
use Rattle.hub_serve.proofs.Refused.{BreachesShown, OverlapsShown}

-- The words ask what clashes: then the text says it.
abbrev pub AreClashes : Request → List ℕ → List ℕ → ℕ → Type 0
AreClashes request bytes line status = (reading : Reading) → request ≡ about (ask.Clashes reading) → ShowsClashes reading bytes line status

-- What is true of the question and of the input if the text of the answer starts so.
abbrev pub Means : Request → List ℕ → List ℕ → ℕ → Start → Type 0
Means request bytes line status SafeStart = (below : List ℕ) × (line ≡ codes "safe\n" ++ below) × FollowsSafe (Some request) bytes below status
Means request bytes line status VerifiedStart = SpellsVerified (Some request) bytes
Means request bytes line status OverlapStart = (OverlapsShown → SpellsUnsafe (Some request) bytes) × AreClashes request bytes line status
Means request bytes line status BreachStart = (BreachesShown → SpellsUnsafe (Some request) bytes) × AreClashes request bytes line status
Means request bytes line status TooLargeStart = AreClashes request bytes line status
Means request bytes line status NestedStart = AreClashes request bytes line status
Means request bytes line status RoundsStart = ShowsRounds (Some request) bytes line status ⊎ (ShowsRoundsAlone (Some request) bytes line status ⊎ ShowsRoundsRun (Some request) bytes line status)
Means request bytes line status GraphStart = ShowsGraph (Some request) bytes line status
Means request bytes line status ReachedStart = IsTrueOf request bytes (answer.Reach Reached)
Means request bytes line status NotReachedStart = IsTrueOf request bytes (answer.Reach NotReached)
Means request bytes line status ArchiveStart = ShowsArchive (Some request) bytes line status × AreClashes request bytes line status
Means request bytes line status PlanStart = ShowsPlan (Some request) bytes line status
Means request bytes line status OrderStart = ShowsRunInOrder (Some request) bytes line status
Means request bytes line status OtherStart = ⊤
