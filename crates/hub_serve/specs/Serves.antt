-- What the program answers to an input, and when.
use Rattle.std.specs.Prelude.{◌≡◌, ◌⊎◌, ◌≤◌, ◌++◌, ℕ, Bool, true, false, if◌then◌else◌, List, [], take, Option, Some, None, IfSome, codes}
use Rattle.std.specs.Io.KnownBytes.{Appends, Keeps}
use Rattle.hub_bundle.specs.declared.input.InputFault.TheVariants as input
use Rattle.hub_cli.specs.declared.words.Question.TheVariants as ask
use Rattle.hub_cli.specs.declared.words.Query.{Query}
use Rattle.hub_cli.specs.declared.words.Reading.{Reading}
use Rattle.hub_cli.specs.Words.{Request, request_of}
use Rattle.hub_cli.specs.Words as question
use Rattle.hub_report.specs.declared.report.TheConstants.{OUT_OF_MEMORY}
use Rattle.hub_report.specs.declared.report.Report.{Report}
use Rattle.hub_report.specs.declared.report.Report.TheVariants as answer
use Rattle.hub_serve.specs.Mended.{asks_mend}
use Rattle.hub_report.specs.Report.{says_read_failed, status_of, text_of, unread_by}
use Rattle.hub_serve.specs.Reads.{AreSpent, Reads, reads_between}
use Rattle.hub_serve.specs.Rounds.{BeginsAsClash}
use Rattle.hub_serve.specs.Told.{Holds}
use Rattle.hub_serve.specs.Shown.{TellsSafe, SpellsSafe, SpellsUnsafe, SpellsVerified, SpellsClashes, SpellsRounds, SpellsRoundsAlone, SpellsGraph, SpellsRoundsRun, SpellsRunInOrder, SpellsArchive, SpellsPlan, ShowsImport, SpellsReach, ShowsMend}
use Rattle.hub_text.specs.declared.watched.Watched.{Watched}

-- A text was written to an output, whole unless a call of the output failed: then a prefix of it,
-- and the status is 2.
pub record WritesText (old new : Option (List ℕ)) (text : List ℕ) (status : ℕ) (failed : Bool)
    (result : ℕ) : Type 0 where
  pub written : ℕ
  pub appends : Appends old new (take written text)
  pub whole : failed ≡ false → take written text ≡ text
  pub status_is : result ≡ (if failed then 2 else status)

-- Nothing was written, or a prefix of the line that says `out of memory`. The status is that of a
-- fault.
pub record AnswersNothing (old new : Option (List ℕ)) (status : ℕ) : Type 0 where
  pub status_is : status ≡ 2
  pub writes : Keeps old new ⊎ ((written : ℕ)
      × Appends old new (take written (codes "fault: out of memory\n")))

-- The text of one answer was written, and the answer is true of the question and of the input,
-- whose remaining bytes are these if they are known. It says that a read failed only if one did. If
-- one did, it says so, or `out of memory`. It says that the reads were spent only if they were,
-- none of them having met the end. Each other answer but `out of memory` is given only if a read
-- met the end.
pub record Answers (request : Request) (remaining old new : Option (List ℕ)) (reads : Reads)
    (write_failed : Bool) (status : ℕ) : Type 0 where
  pub report : Report
  pub holds : IfSome remaining (λ bytes. Holds request bytes report)
  pub only_failed : says_read_failed report ≡ true → reads.failed ≡ true
  pub all_failed : reads.failed ≡ true
      → (says_read_failed report ≡ true) ⊎ (report ≡ answer.OutOfMemory)
  pub spent : unread_by report ≡ Some input.TurnsSpent → AreSpent reads
  pub whole : unread_by report ≡ None → (reads.at_end ≡ true) ⊎ (report ≡ answer.OutOfMemory)
  pub text : List ℕ
  pub is_text : text ≡ text_of report
  pub writes : WritesText old new text (status_of report) write_failed status

-- The bytes that remain of the input are these, and what was written begins with a word, and goes on
-- with a text.
pub record Begins (remaining old new : Option (List ℕ)) (word bytes text : List ℕ) : Type 0 where
  pub before : List ℕ
  pub input : remaining ≡ Some bytes
  pub kept : old ≡ Some before
  pub written : new ≡ Some (before ++ (word ++ text))

-- What the first line says that the program writes for the words that ask for this, or for nothing:
-- an input's bytes, an output before and after, whether a call of the output failed, and the status.
-- The words aren't those for `mend`, whose lines begin with names of profiles.
pub record Serves (asked : Option Request) (remaining old new : Option (List ℕ)) (failed : Bool)
    (status : ℕ) : Type 0 where
  pub few : status ≤ 3
  pub nothing : asked ≡ None → AnswersNothing old new status
  -- `safe` is written only if the words ask for a check, for what clashes or for a run, and the
  -- input spells a safe set. If they want the profiles to be read for Unison, then by the lines that
  -- count no two own profiles clash in Unison, wherever their roots lie, and Unison breaks none of the
  -- rules.
  pub safe : (bytes text : List ℕ) → asks_mend asked ≡ false
      → Begins remaining old new (codes "safe\n") bytes text → SpellsSafe asked bytes
  -- `verified` is written only if the words ask for `verify`, and the input's certificates show that
  -- the set that it spells is safe.
  pub verified : (bytes text : List ℕ) → asks_mend asked ≡ false
      → Begins remaining old new (codes "verified\n") bytes text → SpellsVerified asked bytes
  -- `same archive:` is written only for Unison, of two own profiles of the input that have the same two
  -- roots: then Unison would spoil their one archive.
  pub same_archive : (bytes text : List ℕ) → asks_mend asked ≡ false
      → Begins remaining old new (codes "same archive: ") bytes text
      → SpellsArchive asked bytes (codes "same archive: " ++ text) failed status
  -- `overlap:` and `breach:` are written only if the input spells a set that isn't safe. For Unison,
  -- two of its profiles aren't, or one with the rules, as they are read for it.
  pub overlap : (bytes text : List ℕ) → asks_mend asked ≡ false
      → Begins remaining old new (codes "overlap: ") bytes text → SpellsUnsafe asked bytes
  pub breach : (bytes text : List ℕ) → asks_mend asked ≡ false
      → Begins remaining old new (codes "breach: ") bytes text → SpellsUnsafe asked bytes
  -- Where the words ask for rounds, `rounds` is written only if the input spells a set that is cut
  -- so. For Unison, the profiles of each round are safe together.
  pub rounds : (reading : Reading) (bytes text : List ℕ)
      → asked ≡ Some (question.about (ask.Rounds reading))
      → Begins remaining old new (codes "rounds ") bytes text
      → SpellsRounds asked bytes (codes "rounds " ++ text) failed status
  -- The same where they ask for rounds beside which profiles that can't be read run alone.
  pub rounds_alone : (bytes text : List ℕ) → asked ≡ Some question.rounds_alone
      → Begins remaining old new (codes "rounds ") bytes text
      → SpellsRoundsAlone asked bytes (codes "rounds " ++ text) failed status
  -- `in order` is written only if they ask for a run in order. What follows it is what the jobs of the
  -- set that the input spells did, and the state that they left: what they leave one after another, in
  -- the order of their profiles, of the input's state (`IsSerial`). Or it says why they weren't run.
  pub in_order : (bytes text : List ℕ) → asks_mend asked ≡ false
      → Begins remaining old new (codes "in order\n") bytes text
      → SpellsRunInOrder asked bytes (codes "in order\n" ++ text) failed status
  -- `plan 1` is written only for `plan`, and two of the input's own profiles that are read and that
  -- it doesn't set apart don't clash in Unison.
  pub planned : (bytes text : List ℕ) → asks_mend asked ≡ false
      → Begins remaining old new (codes "plan 1\n") bytes text
      → SpellsPlan asked bytes (codes "plan 1\n" ++ text) failed status
  -- What is written for `import` with status 0 is a bundle that says, read plainly, what the input
  -- says for Unison.
  pub imported : (bytes text : List ℕ) → asked ≡ Some question.imported
      → Begins remaining old new [] bytes text → status ≡ 0 → ShowsImport bytes text
  -- `reached` and `not reached` are written only if the words ask for `reach`, and that is the
  -- answer.
  pub reached : (bytes text : List ℕ) → asks_mend asked ≡ false
      → Begins remaining old new (codes "reached\n") bytes text → SpellsReach asked bytes true
  pub not_reached : (bytes text : List ℕ) → asks_mend asked ≡ false
      → Begins remaining old new (codes "not reached\n") bytes text → SpellsReach asked bytes false

-- All that the program does for the words that ask for this, or for nothing: an input's bytes, an
-- output before and after, the reads of the input, whether a call of the output failed, and the
-- status.
pub record ServesInFull (asked : Option Request) (remaining old new : Option (List ℕ))
    (reads : Reads) (write_failed : Bool) (status : ℕ) : Type 0 where
  -- The first line that is written says that.
  pub first : Serves asked remaining old new write_failed status
  pub answer : (request : Request) → asked ≡ Some request
      → Answers request remaining old new reads write_failed status
  -- What follows `safe` is what the jobs of the safe set did and left of the input's state, or why they
  -- weren't run.
  pub safe : (bytes text : List ℕ) → asks_mend asked ≡ false
      → Begins remaining old new (codes "safe\n") bytes text
      → TellsSafe asked bytes text write_failed status
  -- `rounds` is written only if the words ask for rounds, and the input spells a set that is cut so, or
  -- of which those profiles are that can be read; or if they ask for a run by rounds, and the rounds of
  -- the set that it spells were run on its state, one after another.
  pub rounds : (bytes text : List ℕ) → asks_mend asked ≡ false
      → Begins remaining old new (codes "rounds ") bytes text
      → SpellsRounds asked bytes (codes "rounds " ++ text) write_failed status
      ⊎ (SpellsRoundsAlone asked bytes (codes "rounds " ++ text) write_failed status
      ⊎ SpellsRoundsRun asked bytes (codes "rounds " ++ text) write_failed status)
  -- `graph clashes {` is written only if they ask for the graph of what clashes in that set.
  pub graph : (bytes text : List ℕ) → asks_mend asked ≡ false
      → Begins remaining old new (codes "graph clashes {") bytes text
      → SpellsGraph asked bytes (codes "graph clashes {" ++ text) write_failed status
  -- For words that ask for what clashes, a first line of that kind is the first of all such lines.
  pub clashes : (reading : Reading) (bytes text : List ℕ)
      → asked ≡ Some (question.about (ask.Clashes reading))
      → Begins remaining old new [] bytes text → BeginsAsClash text
      → SpellsClashes reading bytes text write_failed status
  -- What is written for `mend` with a status of 0 or 1 is lines that only take away, with which the
  -- set is safe or refused so, or the bundle with them.
  pub mended : (reading : Reading) (as_bundle : Bool) (bytes text : List ℕ)
      → asked ≡ Some (question.mended reading as_bundle)
      → Begins remaining old new [] bytes text → status ≤ 1
      → ShowsMend reading as_bundle bytes text status

-- The same of a reader and a writer before and after, of which these functions tell the bytes.
abbrev pub ServesOver : {D E : Type 0} → Watched D → Watched D → Watched E → Watched E
    → (D → Option (List ℕ)) → (E → Option (List ℕ)) → Option Request → ℕ → Type 0
ServesOver input input_after output output_after remaining contents asked status =
    ServesInFull asked (remaining input.device) (contents output.device)
    (contents output_after.device) (reads_between input input_after) output_after.failed status

-- The same of the answer to a query.
abbrev pub AnswersQuery : {D E : Type 0} → Watched D → Watched D → Watched E → Watched E
    → (D → Option (List ℕ)) → (E → Option (List ℕ)) → Query → ℕ → Type 0
AnswersQuery input input_after output output_after remaining contents query status =
    Answers (request_of query) (remaining input.device) (contents output.device)
    (contents output_after.device) (reads_between input input_after) output_after.failed status

-- The same where nothing is answered, where a text is written, where that says that memory is out,
-- and of bytes alone.
abbrev pub AnswersNothingTo : {E : Type 0} → Watched E → Watched E → (E → Option (List ℕ)) → ℕ
    → Type 0
AnswersNothingTo output output_after contents status =
    AnswersNothing (contents output.device) (contents output_after.device) status

abbrev pub WritesTextTo : {E : Type 0} → Watched E → Watched E → (E → Option (List ℕ)) → List ℕ
    → ℕ → ℕ → Type 0
WritesTextTo output output_after contents text status result =
    WritesText (contents output.device) (contents output_after.device) text status
    output_after.failed result

abbrev pub WritesMemory : {E : Type 0} → Watched E → Watched E → (E → Option (List ℕ)) → ℕ → Type 0
WritesMemory output output_after contents result =
    WritesTextTo output output_after contents OUT_OF_MEMORY.now 2 result

abbrev pub AppendsTo : {E : Type 0} → Watched E → Watched E → (E → Option (List ℕ)) → List ℕ
    → Type 0
AppendsTo output output_after contents bytes =
    Appends (contents output.device) (contents output_after.device) bytes
