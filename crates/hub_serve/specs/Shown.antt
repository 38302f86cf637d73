-- What the first line of what is written shows of the input.
use Rattle.std.specs.Prelude.{◌≡◌, ◌⊎◌, ◌<◌, ◌++◌, ℕ, Bool, true, false, if◌then◌else◌, List, [], ◌∷◌, take, Option, Some, codes, slice_get}
use Rattle.hub_profile.specs.Parts.{Parts}
use Rattle.hub_cert.specs.Set.{IsSafeSet}
use Rattle.hub_cert.specs.Verdict.{AreInductive}
use Rattle.hub_bundle.specs.declared.sections.BundleContents.{BundleContents}
use Rattle.hub_bundle.specs.Sections.{Spells, members}
use Rattle.hub_cli.specs.declared.words.Question.{Question}
use Rattle.hub_cli.specs.declared.words.Question.TheVariants as ask
use Rattle.hub_cli.specs.declared.words.Reading.{Reading}
use Rattle.hub_cli.specs.declared.words.Reading.TheVariants as read
use Rattle.hub_cli.specs.Words.{Request, reading_for, reading_of}
use Rattle.hub_cli.specs.Words as question
use Rattle.hub_serve.specs.declared.task.Task.{Task}
use Rattle.hub_serve.specs.Mended.{mend_text}
use Rattle.hub_mend.specs.Additions.{mended_text}
use Rattle.hub_mend.specs.declared.piece.Piece.{Piece}
use Rattle.hub_import.specs.Imported.{contents_of}
use Rattle.hub_preferences.specs.Counted.{counted_bundle}
use Rattle.hub_report.specs.Archive.{archive_line}
use Rattle.hub_report.specs.RoundsRun.{rounds_run_text}
use Rattle.hub_report.specs.declared.rounds_run.RoundsRun.{RoundsRun}
use Rattle.hub_state.specs.State.{State}
use Rattle.hub_starter.specs.Waves.{NoneBreaks}
use Rattle.hub_serve.specs.ByRounds.{HasRunByRounds}
use Rattle.hub_serve.specs.InOrder.{IsBelowInOrder}
use Rattle.hub_serve.specs.Rounds.{DrawsClashes, ListsClashes, WritesRounds}
use Rattle.hub_serve.specs.Runs.{IsBelow}
use Rattle.hub_serve.specs.Plans.{AreEachOnce, CutsAlone, IsApart, IsPlan, PlacesEach, RunBeside}
use Rattle.hub_rounds.specs.Lines.{HasNoOwnLine}
use Rattle.hub_parts.specs.Anywhere.{KeepsRulesAnywhereInUnison}
use Rattle.hub_unison.specs.Shared.{ShareNoArchive, is_shared, shared_pairs}
use Rattle.hub_unison.specs.UnisonReach.{IsSafeInUnison}
use Rattle.hub_unison.specs.Written.{Written}
use Rattle.hub_serve.specs.Unison.{IsSafeRound, SpellsAs, SpellsSafeInUnison, SpellsSafeTogether, SpellsUnreachedInUnison, written_in}
use Rattle.hub_serve.specs.InUnison.{DrawsInUnison, ListsInUnison, RoundsInUnison}
use Rattle.hub_apart.specs.UnsafeParts.{HasUnsafePart}
use Rattle.hub_serve.specs.Task.{task_of}
use Rattle.hub_serve.specs.Told.{IsMendedAs, ReachIs}

-- A text is the whole of what is to be told, with the status of that, unless a call of the output
-- failed: then it is a prefix, and the status is 2.
pub record IsWholeUnlessFailed (full : List ℕ) (full_status : ℕ) (failed : Bool)
    (text : List ℕ) (status : ℕ) : Type 0 where
  pub written : ℕ
  pub text_is : text ≡ take written full
  pub whole : failed ≡ false → text ≡ full
  pub status_is : status ≡ (if failed then 2 else full_status)

-- This holds of a full text and its status, and the text is the whole of it, with that status,
-- unless a call of the output failed.
pub record TellsUnlessFailed (IsSo : List ℕ → ℕ → Type 0) (text : List ℕ) (failed : Bool)
    (status : ℕ) : Type 0 where
  pub full : List ℕ
  pub full_status : ℕ
  pub is_so : IsSo full full_status
  pub told : IsWholeUnlessFailed full full_status failed text status

-- Whether `safe` may be an answer to a question.
abbrev pub may_be_safe : Question → Bool
may_be_safe ask.CheckWithState = true
may_be_safe (ask.Run n) = true
may_be_safe (ask.Check reading) = true
may_be_safe (ask.Clashes reading) = true
may_be_safe _ = false

-- The bytes are a bundle whose profiles and rules are a safe set, and this text is what is to follow
-- `safe`, with this status.
pub record FollowsSafeSet (asked : Option Request) (bytes text : List ℕ) (status : ℕ) : Type 0 where
  pub of_set : Question
  pub is_asked : asked ≡ Some (question.about of_set)
  pub plain : reading_of of_set ≡ read.Plain
  pub contents : BundleContents
  pub spelled : Spells bytes contents
  pub to_do : Task
  pub to_do_is : task_of of_set contents.state ≡ Some to_do
  pub safe : IsSafeSet (members contents)
  pub below : IsBelow to_do (members contents) status text

-- By the lines that count, they are a bundle whose own profiles are safe together in Unison. Then
-- nothing follows.
pub record FollowsSafeInUnison (asked : Option Request) (bytes text : List ℕ) (status : ℕ) :
    Type 0 where
  pub of_set : Question
  pub is_asked : asked ≡ Some (question.about of_set)
  pub in_unison : reading_of of_set ≡ read.Unison
  pub may_be : may_be_safe of_set ≡ true
  pub safe : SpellsSafeTogether bytes
  pub text_is : text ≡ []
  pub status_is : status ≡ 0

abbrev pub FollowsSafe : Option Request → List ℕ → List ℕ → ℕ → Type 0
FollowsSafe asked bytes text status =
    FollowsSafeSet asked bytes text status ⊎ FollowsSafeInUnison asked bytes text status

-- The same of what is written of that text; and so of each text below.
abbrev pub TellsSafe : Option Request → List ℕ → List ℕ → Bool → ℕ → Type 0
TellsSafe asked bytes = TellsUnlessFailed (FollowsSafe asked bytes)

-- The bytes are a bundle whose profiles and rules are a safe set; or whose own profiles are safe
-- together in Unison, by the lines that count.
abbrev pub SpellsSafeAs : Reading → List ℕ → Type 0
SpellsSafeAs read.Plain bytes =
    (c : BundleContents) × Spells bytes c × IsSafeSet (members c)
SpellsSafeAs read.Unison bytes = SpellsSafeTogether bytes

-- `safe` may be the answer, and this is so, as the words want the profiles to be read.
pub record SpellsSafe (asked : Option Request) (bytes : List ℕ) : Type 0 where
  pub of_set : Question
  pub is_asked : asked ≡ Some (question.about of_set)
  pub may_be : may_be_safe of_set ≡ true
  pub safe : SpellsSafeAs (reading_of of_set) bytes

-- The bytes are a bundle whose profiles and rules aren't a safe set; or of whose profiles one, with
-- the rules, or two aren't, as they are read for Unison.
abbrev pub SpellsUnsafeAs : Reading → List ℕ → Type 0
SpellsUnsafeAs read.Plain bytes =
    (c : BundleContents) × Spells bytes c × (IsSafeSet (members c) → ⊥)
SpellsUnsafeAs read.Unison bytes =
    (own : BundleContents) × Spells (counted_bundle bytes) own
    × HasUnsafePart own.profiles own.rules

-- This is so, as the words want them to be read.
pub record SpellsUnsafe (asked : Option Request) (bytes : List ℕ) : Type 0 where
  pub request : Request
  pub is_asked : asked ≡ Some request
  pub unsafe : SpellsUnsafeAs (reading_for request) bytes

-- The words ask to verify the bundle's certificates, and these make its set safe.
pub record SpellsVerified (asked : Option Request) (bytes : List ℕ) : Type 0 where
  pub is_asked : asked ≡ Some (question.about ask.Verify)
  pub contents : BundleContents
  pub spelled : Spells bytes contents
  pub inductive : AreInductive (members contents) contents.certificates
  pub safe : IsSafeSet (members contents)

-- The bytes are a bundle of whose set this text lists what clashes; or of whose own profiles, as
-- Unison may run them. The status is 1.
abbrev pub ListsAs : Reading → List ℕ → List ℕ → Type 0
ListsAs read.Plain bytes text =
    (c : BundleContents) × Spells bytes c × ListsClashes read.Plain (members c) text
ListsAs read.Unison bytes text = ListsInUnison bytes text

pub record ShowsClashes (reading : Reading) (bytes text : List ℕ) (status : ℕ) : Type 0 where
  pub listed : ListsAs reading bytes text
  pub status_is : status ≡ 1

abbrev pub SpellsClashes : Reading → List ℕ → List ℕ → Bool → ℕ → Type 0
SpellsClashes reading bytes = TellsUnlessFailed (ShowsClashes reading bytes)

-- The own profiles of the bundle that the lines that count are have these rounds, and the profiles
-- of each round are safe together in Unison.
pub record CutsInUnison (bytes text : List ℕ) (well : Bool) : Type 0 where
  pub cut : RoundsInUnison bytes text well
  pub safe : (k : ℕ) (numbers : List ℕ) → slice_get cut.rounds.rounds k ≡ Some numbers
      → IsSafeRound (written_in cut.input.spelled.sections) cut.input.own.rules numbers

-- The bytes are a bundle whose set is cut so; or whose own profiles are, as Unison may run them.
abbrev pub CutsAs : Reading → List ℕ → List ℕ → Bool → Type 0
CutsAs read.Plain bytes text well =
    (c : BundleContents) × Spells bytes c × WritesRounds read.Plain (members c) text well
CutsAs read.Unison bytes text well = CutsInUnison bytes text well

-- The words ask for rounds, and these are written. All is well if each profile is in a round and no
-- goal was too large: then the status is 0, else 1.
pub record ShowsRounds (asked : Option Request) (bytes text : List ℕ) (status : ℕ) : Type 0 where
  pub reading : Reading
  pub is_asked : asked ≡ Some (question.about (ask.Rounds reading))
  pub well : Bool
  pub cut : CutsAs reading bytes text well
  pub status_is : status ≡ (if well then 0 else 1)

abbrev pub SpellsRounds : Option Request → List ℕ → List ℕ → Bool → ℕ → Type 0
SpellsRounds asked bytes = TellsUnlessFailed (ShowsRounds asked bytes)

-- The words ask for rounds of the profiles of the bundle that can be read, and these are written. The
-- profiles of each round are safe together in Unison. Each of the others runs alone, and the text says
-- so. The status is 0 if all is decided, else 1.
pub record ShowsRoundsAlone (asked : Option Request) (bytes text : List ℕ) (status : ℕ) :
    Type 0 where
  pub is_asked : asked ≡ Some question.rounds_alone
  pub well : Bool
  pub cut : CutsAlone bytes text well
  pub safe : (k : ℕ) (numbers : List ℕ) → slice_get cut.rounds.rounds k ≡ Some numbers
      → IsSafeRound (written_in cut.takes.sections) cut.own.rules numbers
  pub once : AreEachOnce cut.own.roster
  pub status_is : status ≡ (if well then 0 else 1)

abbrev pub SpellsRoundsAlone : Option Request → List ℕ → List ℕ → Bool → ℕ → Type 0
SpellsRoundsAlone asked bytes = TellsUnlessFailed (ShowsRoundsAlone asked bytes)

-- The words ask for a plan, and this is that of the bundle. If it doesn't say of two own profiles
-- that are read that they may not run at the same time, these don't clash in Unison, wherever their
-- roots lie, and share no archive. By one of which it says nothing alone Unison breaks no rule. Each
-- profile is in the order, or is refused. The status is 0 if none is refused, else 1.
pub record ShowsPlan (asked : Option Request) (bytes text : List ℕ) (status : ℕ) : Type 0 where
  pub is_asked : asked ≡ Some question.planned
  pub well : Bool
  pub plan : IsPlan bytes text well
  pub in_unison : (i j : ℕ) (V W : Written) → i < j
      → slice_get (written_in plan.takes.sections) i ≡ Some V
      → slice_get (written_in plan.takes.sections) j ≡ Some W
      → (IsApart plan.lines (shared_pairs plan.own.profiles) i j → ⊥) → RunBeside V W
  pub kept : (i : ℕ) (W : Written) → slice_get (written_in plan.takes.sections) i ≡ Some W
      → HasNoOwnLine plan.lines i → KeepsRulesAnywhereInUnison (W ∷ []) plan.own.rules
  pub placed : PlacesEach plan.own.roster plan.own.rules plan.lines
  pub status_is : status ≡ (if well then 0 else 1)

abbrev pub SpellsPlan : Option Request → List ℕ → List ℕ → Bool → ℕ → Type 0
SpellsPlan asked bytes = TellsUnlessFailed (ShowsPlan asked bytes)

-- The bytes are a bundle whose set is drawn so; or whose own profiles are, as Unison may run them. If
-- all is well, these are safe together.
abbrev pub DrawsAs : Reading → List ℕ → List ℕ → Bool → Type 0
DrawsAs read.Plain bytes text well =
    (c : BundleContents) × Spells bytes c × DrawsClashes read.Plain (members c) text well
DrawsAs read.Unison bytes text well =
    DrawsInUnison bytes text well × (well ≡ true → SpellsSafeTogether bytes)

-- They ask for a graph of what clashes, and this is drawn. The status is 0 if all is well, else 1.
pub record ShowsGraph (asked : Option Request) (bytes text : List ℕ) (status : ℕ) : Type 0 where
  pub reading : Reading
  pub is_asked : asked ≡ Some (question.about (ask.Graph reading))
  pub well : Bool
  pub drawn : DrawsAs reading bytes text well
  pub status_is : status ≡ (if well then 0 else 1)

abbrev pub SpellsGraph : Option Request → List ℕ → List ℕ → Bool → ℕ → Type 0
SpellsGraph asked bytes = TellsUnlessFailed (ShowsGraph asked bytes)

-- The words ask for a run by rounds, and the bytes are a bundle whose state the rounds of its set
-- were run on, and this text is to say what they did and left. The status is 0 if each round was
-- run and each job is finished, else 3.
pub record ShowsRoundsRun (asked : Option Request) (bytes text : List ℕ) (status : ℕ) : Type 0 where
  pub workers : ℕ
  pub is_asked : asked ≡ Some (question.about (ask.RunByRounds workers))
  pub contents : BundleContents
  pub spelled : Spells bytes contents
  pub state : State
  pub state_is : contents.state ≡ Some state
  pub run : RoundsRun
  pub was_run : HasRunByRounds (members contents) workers state run
  pub text_is : text ≡ rounds_run_text run
  pub status_is : status ≡ (if run.finished then 0 else 3)

abbrev pub SpellsRoundsRun : Option Request → List ℕ → List ℕ → Bool → ℕ → Type 0
SpellsRoundsRun asked bytes = TellsUnlessFailed (ShowsRoundsRun asked bytes)

-- The words ask for a run in order, and the bytes are a bundle on whose state the jobs of its set are
-- to be run so. No profile breaks a rule of the set. The text says what the jobs did and the state that
-- they left, which is what they leave one after another, in the order of their profiles; or why they
-- weren't run. The status is 0 if each job is finished, else 3.
pub record ShowsRunInOrder (asked : Option Request) (bytes text : List ℕ) (status : ℕ) : Type 0 where
  pub workers : ℕ
  pub is_asked : asked ≡ Some (question.about (ask.RunInOrder workers))
  pub contents : BundleContents
  pub spelled : Spells bytes contents
  pub state : State
  pub state_is : contents.state ≡ Some state
  pub rules : NoneBreaks (members contents)
  pub below : List ℕ
  pub text_is : text ≡ codes "in order\n" ++ below
  pub is_below : IsBelowInOrder (members contents) state workers status below

abbrev pub SpellsRunInOrder : Option Request → List ℕ → List ℕ → Bool → ℕ → Type 0
SpellsRunInOrder asked bytes = TellsUnlessFailed (ShowsRunInOrder asked bytes)

-- The text is a bundle. Read plainly, it says the readings for Unison of the profiles that the
-- bytes spell, and their rules, and neither a state nor certificates. If these are a safe set and no
-- two of the profiles share an archive, then by the lines of the bytes that count no two of the own
-- profiles clash in Unison, and Unison breaks none of the rules.
pub record ShowsImport (bytes text : List ℕ) : Type 0 where
  pub contents : BundleContents
  pub spelled : SpellsAs read.Unison bytes contents
  pub written : Spells text (contents_of contents.profiles contents.rules)
  pub in_unison : IsSafeSet (members contents) → ShareNoArchive contents.profiles
      → SpellsSafeInUnison bytes

-- The words want the profiles to be read for Unison, and the lines of the bytes that count are a
-- bundle. Two of its own profiles have the same two roots. The text begins with their line, which has
-- their names and the roots of the first one, and the status is 1.
pub record ShowsArchive (asked : Option Request) (bytes text : List ℕ) (status : ℕ) : Type 0 where
  pub request : Request
  pub is_asked : asked ≡ Some request
  pub for_unison : reading_for request ≡ read.Unison
  pub own : BundleContents
  pub spelled : Spells (counted_bundle bytes) own
  pub numbers : ℕ × ℕ
  pub P : Parts
  pub Q : Parts
  pub before : numbers.0 < numbers.1
  pub at_first : slice_get own.profiles numbers.0 ≡ Some P
  pub at_second : slice_get own.profiles numbers.1 ≡ Some Q
  pub shared : is_shared P Q ≡ true
  pub rest : List ℕ
  pub text_is : text ≡ archive_line own.profiles numbers ++ rest
  pub status_is : status ≡ 1

abbrev pub SpellsArchive : Option Request → List ℕ → List ℕ → Bool → ℕ → Type 0
SpellsArchive asked bytes = TellsUnlessFailed (ShowsArchive asked bytes)

-- The words ask whether a profile reaches a path, and this is what a profile that the bytes spell
-- answers.
pub record SpellsReach (asked : Option Request) (bytes : List ℕ) (answer : Bool) : Type 0 where
  pub request : Request
  pub is_asked : asked ≡ Some request
  pub contents : BundleContents
  pub spelled : SpellsAs (reading_for request) bytes contents
  pub answered : ReachIs request contents.profiles answer
  pub in_unison : reading_for request ≡ read.Unison → answer ≡ false
      → SpellsUnreachedInUnison bytes answered.profile answered.p

-- A text has lines that only take away, and what is said of the bundle with them, or it is that
-- bundle. The status is 0 only if its set is safe. If that is for Unison, its own profiles are safe
-- together: no two of them clash in Unison, wherever their roots lie, and Unison breaks none of its
-- rules.
pub record ShowsMend (reading : Reading) (as_bundle : Bool) (bytes text : List ℕ)
    (status : ℕ) : Type 0 where
  pub pieces : List Piece
  pub safe : Bool
  pub line : List ℕ
  pub mended : IsMendedAs reading bytes pieces safe line
  pub text_is : text ≡ mend_text as_bundle pieces line
  pub status_is : status ≡ (if safe then 0 else 1)
  pub in_unison : reading ≡ read.Unison → safe ≡ true → SpellsSafeTogether (mended_text pieces)
