-- What an answer says of a question and of an input.
use Rattle.std.specs.Prelude.{◌≡◌, ◌⊎◌, ◌≤◌, ◌∷◌, ⊤, ℕ, Bool, true, false, List, [], length, Some, None, Result, Ok, Err, IfErr, IfOk, chars, string_bytes}
use Rattle.hub_path.specs.Path.{Path}
use Rattle.hub_path.specs.Reading.{path_reading}
use Rattle.hub_path.specs.declared.fault.PathFault.{PathFault}
use Rattle.hub_profile.specs.Parts.{Parts}
use Rattle.hub_reach.specs.Reach.{reach}
use Rattle.hub_cert.specs.Set.{Members, IsSafeSet}
use Rattle.hub_cert.specs.Refused.{IsRefused}
use Rattle.hub_cert.specs.Goals.{goals}
use Rattle.hub_cert.specs.Reading.{certificates_in}
use Rattle.hub_cert.specs.Verdict.{AreInductive, Refuses, goals_in}
use Rattle.hub_cert.specs.Writing.{certificates_text}
use Rattle.hub_cert.specs.declared.certificate.Certificate.{Certificate}
use Rattle.hub_cert.specs.declared.fault.CheckFault.{CheckFault}
use Rattle.hub_cert.specs.declared.fault.CheckFault.TheVariants as fault
use Rattle.hub_search.specs.Search.{IsFirstFault}
use Rattle.hub_apart.specs.Apart.{are_put_apart}
use Rattle.hub_apart.specs.ApartLines.{IsRefusedApart}
use Rattle.hub_bundle.specs.declared.input.TheConstants.{READ_TURNS}
use Rattle.hub_bundle.specs.declared.input.InputFault.{InputFault}
use Rattle.hub_bundle.specs.declared.input.InputFault.TheVariants as input
use Rattle.hub_bundle.specs.declared.sections.BundleContents.{BundleContents}
use Rattle.hub_bundle.specs.Bundle.{bundle_reading}
use Rattle.hub_bundle.specs.Sections.{Spells, HasFault, members}
use Rattle.hub_cli.specs.declared.words.Reading.{Reading}
use Rattle.hub_cli.specs.declared.words.Reading.TheVariants.{Plain, Unison}
use Rattle.hub_cli.specs.Words.{Request, reading_for}
use Rattle.hub_cli.specs.Words as question
use Rattle.hub_report.specs.declared.report.Report.{Report}
use Rattle.hub_report.specs.declared.report.Report.TheVariants as answer
use Rattle.hub_report.specs.declared.clashes_answer.ClashesAnswer.{ClashesAnswer}
use Rattle.hub_report.specs.declared.clashes_answer.ClashesAnswer.TheVariants.{Lines, Graph, Cut}
use Rattle.hub_report.specs.declared.faulty_input.FaultyInput.{FaultyInput}
use Rattle.hub_report.specs.declared.faulty_input.FaultyInput.TheVariants.{Unread, BadBundle, BadSection}
use Rattle.hub_report.specs.declared.reach_answer.ReachAnswer.{ReachAnswer}
use Rattle.hub_report.specs.declared.reach_answer.ReachAnswer.TheVariants.{Reached, NotReached}
use Rattle.hub_report.specs.declared.reach_answer.ReachAnswer.TheVariants.{NoProfile, BadPath}
use Rattle.hub_report.specs.declared.run_answer.RunAnswer.{RunAnswer}
use Rattle.hub_report.specs.declared.run_answer.RunAnswer.TheVariants.{Ran, RanByRounds, RanInOrder}
use Rattle.hub_report.specs.declared.run_answer.RunAnswer.TheVariants.{NotRun, NotRunInOrder}
use Rattle.hub_report.specs.declared.verdict.Verdict.{Verdict}
use Rattle.hub_report.specs.declared.verdict.Verdict.TheVariants.{Safe, Verified, Certified}
use Rattle.hub_serve.specs.declared.task.Task.{Task}
use Rattle.hub_serve.specs.declared.task.Task.TheVariants as task
use Rattle.hub_serve.specs.Reached.{first_named}
use Rattle.hub_serve.specs.Mended.{Mends, MendsInUnison, asks_mend, mend_text}
use Rattle.hub_serve.specs.Plans.{PlanHolds}
use Rattle.hub_serve.specs.InUnison.{HaveNothing, IsArchiveLine, IsFirstLine, IsUnsearched}
use Rattle.hub_serve.specs.InUnison.{UnisonHolds, asked_in_unison}
use Rattle.hub_mend.specs.Additions.{line_count, mended_text, safe_line}
use Rattle.hub_mend.specs.declared.piece.Piece.{Piece}
use Rattle.hub_report.specs.Archive.{archive_line}
use Rattle.hub_report.specs.Refusal.{refusal_line}
use Rattle.hub_report.specs.declared.mended.Mended.{Mended}
use Rattle.hub_import.specs.Imported.{contents_of}
use Rattle.hub_import.specs.Text.{bundle_text}
use Rattle.hub_report.specs.Report.{TellsRefusal}
use Rattle.hub_serve.specs.ByRounds.{HasRunByRoundsAs, IsFirstAlone, RunsByRounds}
use Rattle.hub_serve.specs.InOrder.{HasRunInOrderAs, IsPreventedInOrder, IsUndecidedInOrder}
use Rattle.hub_serve.specs.Rounds.{DrawsClashes, HasUnverifiedRound, IsCut, ListsClashes}
use Rattle.hub_serve.specs.Runs.{HasRunAs, IsPrevented}
use Rattle.hub_serve.specs.Unison.{SpellsAs, archives_as, counted_as}
use Rattle.hub_serve.specs.Task.{AsksTask, LacksState, reading_in}

-- It was asked whether a profile reaches a path, and this is the answer of the first profile of
-- that name.
pub record ReachIs (request : Request) (Ps : List Parts) (answer : Bool) : Type 0 where
  pub reading : Reading
  pub profile : List ℕ
  pub path : List ℕ
  pub asked : request ≡ question.reach reading profile path
  pub P : Parts
  pub p : Path
  pub profile_is : first_named profile Ps ≡ Some P
  pub path_is : path_reading (chars path) ≡ Ok p
  pub answer_is : reach P p ≡ answer

-- It was asked of a profile that isn't there.
pub record LacksProfile (request : Request) (Ps : List Parts) (profile : List ℕ) : Type 0 where
  pub reading : Reading
  pub path : List ℕ
  pub asked : request ≡ question.reach reading profile path
  pub missing : first_named profile Ps ≡ None

-- It was asked of a text that is no path.
pub record HasBadPath (request : Request) (Ps : List Parts) (f : PathFault) : Type 0 where
  pub reading : Reading
  pub profile : List ℕ
  pub path : List ℕ
  pub asked : request ≡ question.reach reading profile path
  pub P : Parts
  pub profile_is : first_named profile Ps ≡ Some P
  pub fault : path_reading (chars path) ≡ Err f

-- Profiles and rules that are no set are cut into rounds all the same, if that is to be done and
-- nested roots of profiles are all that keeps them from being one.
abbrev pub puts_apart : Task → Members → Bool
puts_apart (task.Rounds reading) S = are_put_apart S
puts_apart _ S = false

-- The fault by which a set that was made is refused, where these are the bundle's certificates, or
-- by which profiles that are put apart are.
abbrev pub FaultOf : Task → Members → List Certificate → CheckFault → Type 0
FaultOf (task.Check reading) S cs e = (e ≡ fault.OutOfMemory) ⊎ IsFirstFault S e
FaultOf (task.RunJobs n state) S cs e = (e ≡ fault.OutOfMemory) ⊎ IsFirstFault S e
FaultOf (task.RunByRounds n state) S cs e = IsFirstAlone S e
FaultOf (task.RunInOrder n state) S cs e = IsFirstAlone S e
FaultOf task.Certify S cs e = (e ≡ fault.OutOfMemory) ⊎ IsFirstFault S e
FaultOf task.Verify S cs e = Refuses S cs e
FaultOf (task.Clashes reading) S cs e = ⊥
FaultOf (task.Graph reading) S cs e = ⊥
FaultOf (task.Rounds reading) S cs e = (are_put_apart S ≡ true) × IsRefusedApart S e

-- The text is that of certificates of a set, one for each goal and in the order of the goals, and
-- it is read as these.
pub record WritesCertificates (S : Members) (text : List ℕ) : Type 0 where
  pub own : List Certificate
  pub inductive : AreInductive S own
  pub order : goals_in own ≡ goals S
  pub text_is : text ≡ certificates_text own
  pub read_back : certificates_in text ≡ Ok own

-- Whether `safe` may be said of what is to be done, without a run;
abbrev pub may_say_safe : Task → Bool
may_say_safe (task.Check reading) = true
may_say_safe (task.Clashes reading) = true
may_say_safe _ = false

-- and which two profiles of a set share an archive, as they are read for it.
abbrev pub archives_in : Task → Members → List (ℕ × ℕ)
archives_in t S = archives_as (reading_in t) S.profiles

-- What holds of a set that was made, and of the bundle's certificates, where this was to be done
-- and that is the verdict,
abbrev pub IsVerdictOn : Task → Members → List Certificate → Verdict → Type 0
IsVerdictOn t S cs Safe = (may_say_safe t ≡ true) × IsSafeSet S × (archives_in t S ≡ [])
IsVerdictOn t S cs Verified = (t ≡ task.Verify) × AreInductive S cs × IsSafeSet S
IsVerdictOn t S cs (Certified text) = (t ≡ task.Certify) × WritesCertificates S (string_bytes text)

-- or that is the answer with what clashes in it,
abbrev pub AreClashesOf : Task → Members → ClashesAnswer → Type 0
AreClashesOf t S (Lines text first) =
    (t ≡ task.Clashes (reading_in t)) × ListsClashes (reading_in t) S (string_bytes text)
AreClashesOf t S (Graph g) =
    (t ≡ task.Graph (reading_in t)) × DrawsClashes (reading_in t) S (string_bytes g.text) g.safe
AreClashesOf t S (Cut c) = (t ≡ task.Rounds (reading_in t)) × IsCut (reading_in t) S c

-- A set is safe, and two of its profiles share an archive if they are read so. The line says so of
-- the first two.
pub record SharesArchive (reading : Reading) (S : Members) (line : List ℕ) : Type 0 where
  pub safe : IsSafeSet S
  pub numbers : ℕ × ℕ
  pub others : List (ℕ × ℕ)
  pub first : archives_as reading S.profiles ≡ numbers ∷ others
  pub line_is : line ≡ archive_line S.profiles numbers

-- with what came of a run,
abbrev pub CameOfRun : Task → Members → RunAnswer → Type 0
CameOfRun t S (Ran r) = HasRunAs t S r
CameOfRun t S (RanByRounds r) = HasRunByRoundsAs t S r
CameOfRun t S (RanInOrder r) = HasRunInOrderAs t S r
CameOfRun t S (NotRun e) = IsPrevented t S e
CameOfRun t S (NotRunInOrder e) = IsPreventedInOrder t S e

-- or any answer. The others are not answers about a set that was made.
abbrev pub IsToldOfSet : Task → Members → List Certificate → Report → Type 0
IsToldOfSet t S cs (answer.Verdict v) = IsVerdictOn t S cs v
IsToldOfSet t S cs (answer.Clashes a) = AreClashesOf t S a
IsToldOfSet t S cs (answer.Run a) = CameOfRun t S a
IsToldOfSet t S cs (answer.Refused text refusal) =
    (e : CheckFault) × FaultOf t S cs e × TellsRefusal S e (answer.Refused text refusal)
IsToldOfSet t S cs (answer.SameArchive line refusal) =
    (t ≡ task.Check (reading_in t)) × SharesArchive (reading_in t) S (string_bytes line)
IsToldOfSet t S cs answer.NotVerified =
    (((t ≡ task.Rounds (reading_in t)) ⊎ RunsByRounds t) × HasUnverifiedRound (reading_in t) S)
    ⊎ IsUndecidedInOrder t S
IsToldOfSet t S cs answer.OutOfMemory = ⊤
IsToldOfSet t S cs _ = ⊥

-- That is the answer about a set, whatever the bundle's certificates are.
abbrev pub IsToldAnyway : Task → Members → Report → Type 0
IsToldAnyway t S r = (cs : List Certificate) → IsToldOfSet t S cs r

-- The claim holds of what was to be done about a set with these certificates, where this is the
-- answer, or the fault by which the set is refused.
abbrev pub OfAnswer : Result Report CheckFault → Members
    → (Task → List Certificate → Type 0) → Type 0
OfAnswer answer S C =
    (t : Task) (cs : List Certificate) → IfOk answer (IsToldOfSet t S cs)
    → IfErr answer (FaultOf t S cs) → C t cs

-- A set that may be refused first for this fault isn't safe.
abbrev pub IsUnsafeIfFirst : Members → CheckFault → Type 0
IsUnsafeIfFirst S e = IsFirstFault S e → IsSafeSet S → ⊥

-- The profiles and rules are no set and aren't put apart, or the set is refused.
abbrev pub IsRefusedFor : Task → BundleContents → CheckFault → Type 0
IsRefusedFor t c e =
    (IsRefused (members c) e × (puts_apart t (members c) ≡ false))
    ⊎ FaultOf t (members c) c.certificates e

-- It was asked to do this about the set, which is refused.
pub record IsToldRefused (request : Request) (c : BundleContents) (r : Report) : Type 0 where
  pub to_do : Task
  pub asked : AsksTask request c.state to_do
  pub reason : CheckFault
  pub refused : IsRefusedFor to_do c reason
  pub told : TellsRefusal (members c) reason r

-- It was asked to do this about the set, and that is the answer.
pub record IsToldAbout (request : Request) (c : BundleContents) (r : Report) : Type 0 where
  pub to_do : Task
  pub asked : AsksTask request c.state to_do
  pub told : IsToldOfSet to_do (members c) c.certificates r

-- What holds of the question and of the bundle's profiles where the program answers so whether one
-- reaches a path.
abbrev pub IsToldOfReach : Request → List Parts → ReachAnswer → Type 0
IsToldOfReach request Ps Reached = ReachIs request Ps true
IsToldOfReach request Ps NotReached = ReachIs request Ps false
IsToldOfReach request Ps (NoProfile name) = LacksProfile request Ps name.now
IsToldOfReach request Ps (BadPath f) = HasBadPath request Ps f

-- It was asked for a bundle of what the bundle says, and this is the text of one.
pub record IsImported (request : Request) (c : BundleContents) (text : List ℕ) : Type 0 where
  pub asked : request ≡ question.imported
  pub written : Spells text (contents_of c.profiles c.rules)

-- It was asked for one, and there is none: the text that would say this isn't read as saying it.
pub record IsNotImported (request : Request) (c : BundleContents) : Type 0 where
  pub asked : request ≡ question.imported
  pub unread : Spells (bundle_text c.profiles c.rules) (contents_of c.profiles c.rules) → ⊥

-- What holds of the question and of what the bundle says where the program answers so to a bundle
-- that was read.
abbrev pub IsTold : Request → BundleContents → Report → Type 0
IsTold request c (answer.Faulty f) = ⊥
IsTold request c (answer.Reach a) = IsToldOfReach request c.profiles a
IsTold request c answer.NoState = LacksState request c.state
IsTold request c (answer.Imported text) = IsImported request c text.items
IsTold request c answer.NotImported = IsNotImported request c
IsTold request c (answer.Planned a) = ⊥
IsTold request c (answer.InUnison a) = ⊥
IsTold request c (answer.Mended m) = ⊥
IsTold request c answer.NotMended = ⊥
IsTold request c (answer.Refused t f) = IsToldRefused request c (answer.Refused t f)
IsTold request c answer.OutOfMemory = ⊤
IsTold request c r = IsToldAbout request c r

-- The bytes are a bundle of which that is true, if its profiles are read as it was asked for. It isn't
-- asked about them as Unison may run them, where each two are judged by themselves.
pub record IsTrueOf (request : Request) (bytes : List ℕ) (r : Report) : Type 0 where
  pub whole : asked_in_unison request ≡ None
  pub contents : BundleContents
  pub spelled : SpellsAs (reading_for request) bytes contents
  pub told : IsTold request contents r

-- `check` refuses a bundle with this line.
pub record IsRefusedWith (c : BundleContents) (line : List ℕ) : Type 0 where
  pub reason : CheckFault
  pub refused : IsRefusedFor (task.Check Plain) c reason
  pub line_is : line ≡ refusal_line (members c) reason

-- What is said of a bundle with so many lines, which is safe or not: that it is, or why `check`
-- refuses it.
abbrev pub SaysOf : Bool → BundleContents → ℕ → List ℕ → Type 0
SaysOf true c n line = IsSafeSet (members c) × (line ≡ safe_line n)
SaysOf false c n line = IsRefusedWith c line

-- The same of a bundle with these lines.
abbrev pub SaysOfMended : Bool → BundleContents → List Piece → List ℕ → Type 0
SaysOfMended safe c pieces line = SaysOf safe c (line_count pieces) line

-- `check --unison` of this input says this line, and not that it is safe: the first line of all, which
-- archive is shared, or why its profiles aren't searched.
abbrev pub IsUnsafeInUnison : List ℕ → List ℕ → Type 0
IsUnsafeInUnison bytes line =
    IsFirstLine bytes line ⊎ IsArchiveLine bytes line ⊎ IsUnsearched bytes line

-- What is said for Unison of a bundle with these lines: that it has no line and that no archive is
-- shared, or what `check --unison` says of it.
abbrev pub SaysInUnison : Bool → List Piece → List ℕ → Type 0
SaysInUnison true pieces line =
    HaveNothing (mended_text pieces) × (line ≡ safe_line (line_count pieces))
SaysInUnison false pieces line = IsUnsafeInUnison (mended_text pieces) line

-- Lines were found for a bundle that only take away, and that is said of the bundle with them.
abbrev pub IsMendedAs : Reading → List ℕ → List Piece → Bool → List ℕ → Type 0
IsMendedAs Plain bytes pieces safe line =
    (new : BundleContents) × Mends bytes pieces new × SaysOfMended safe new pieces line
IsMendedAs Unison bytes pieces safe line =
    MendsInUnison bytes pieces × SaysInUnison safe pieces line

-- It was asked for lines that make the bundle's set safe, and these are written, or the bundle with
-- them.
pub record IsMended (request : Request) (bytes : List ℕ) (m : Mended) : Type 0 where
  pub reading : Reading
  pub as_bundle : Bool
  pub asked : request ≡ question.mended reading as_bundle
  pub pieces : List Piece
  pub line : List ℕ
  pub mended : IsMendedAs reading bytes pieces m.safe line
  pub text_is : m.text.items ≡ mend_text as_bundle pieces line

-- What holds of an input that isn't read. That a read failed is no fact about its bytes:
-- `says_read_failed` tells it.
abbrev pub IsUnread : List ℕ → InputFault → Type 0
IsUnread bytes input.ReadFailed = ⊤
IsUnread bytes input.TurnsSpent = READ_TURNS ≤ length bytes
IsUnread bytes input.OutOfMemory = ⊤

-- What holds of an input that isn't a bundle, by those of its lines that count.
abbrev pub IsFaulty : Reading → List ℕ → FaultyInput → Type 0
IsFaulty reading bytes (Unread f) = IsUnread bytes f
IsFaulty reading bytes (BadBundle f) = bundle_reading (counted_as reading bytes) ≡ Err f
IsFaulty reading bytes (BadSection f) = HasFault (counted_as reading bytes) f

-- What holds of the lines that count where the program answers that they aren't a bundle.
abbrev pub IsUnspelled : List ℕ → Report → Type 0
IsUnspelled counted (answer.Faulty (BadBundle f)) = bundle_reading counted ≡ Err f
IsUnspelled counted (answer.Faulty (BadSection f)) = HasFault counted f
IsUnspelled counted answer.OutOfMemory = ⊤
IsUnspelled counted _ = ⊥

-- What holds of the question and the input where the program answers so.
abbrev pub Holds : Request → List ℕ → Report → Type 0
Holds request bytes (answer.Faulty f) = IsFaulty (reading_for request) bytes f
Holds request bytes answer.OutOfMemory = ⊤
Holds request bytes (answer.Planned a) = PlanHolds request bytes a
Holds request bytes (answer.InUnison a) = UnisonHolds (asked_in_unison request) bytes a
Holds request bytes (answer.Mended m) = IsMended request bytes m
Holds request bytes answer.NotMended = asks_mend (Some request) ≡ true
Holds request bytes r = IsTrueOf request bytes r
