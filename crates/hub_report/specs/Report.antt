-- The text and the status of each answer.
use Rattle.std.specs.Prelude.{◌≡◌, ◌≢◌, ⊤, ℕ, Bool, true, false, List, [], Option, None, codes, if◌then◌else◌, string_bytes}
use Rattle.hub_profile.specs.Parts.{Parts}
use Rattle.hub_cert.specs.Set.{Members}
use Rattle.hub_cert.specs.declared.fault.CheckFault.{CheckFault}
use Rattle.hub_cert.specs.declared.fault.CheckFault.TheVariants as fault
use Rattle.hub_bundle.specs.declared.input.InputFault.{InputFault}
use Rattle.hub_bundle.specs.Input.{some_failed}
use Rattle.hub_report.specs.declared.report.Report.{Report}
use Rattle.hub_report.specs.declared.report.Report.TheVariants.{Faulty, Reach, NoState, Refused, SameArchive}
use Rattle.hub_report.specs.declared.report.Report.TheVariants.{Verdict, Clashes, Run}
use Rattle.hub_report.specs.declared.report.Report.TheVariants.{Imported, NotImported}
use Rattle.hub_report.specs.declared.report.Report.TheVariants.{Planned, InUnison}
use Rattle.hub_report.specs.declared.report.Report.TheVariants.{Mended, NotMended}
use Rattle.hub_report.specs.declared.report.Report.TheVariants.{NotVerified, OutOfMemory}
use Rattle.hub_report.specs.Archive.{archive_line}
use Rattle.hub_report.specs.ClashesAnswer as clashes
use Rattle.hub_report.specs.FaultyInput as input
use Rattle.hub_report.specs.PlanAnswer as plan
use Rattle.hub_report.specs.ReachAnswer as reach
use Rattle.hub_report.specs.Refusal.{refusal_line}
use Rattle.hub_report.specs.RunAnswer as run
use Rattle.hub_report.specs.UnisonAnswer as unison
use Rattle.hub_report.specs.Verdict as verdict

-- The text that says an answer.
abbrev pub text_of : Report → List ℕ
text_of (Faulty f) = input.text_of f
text_of (Reach a) = reach.text_of a
text_of NoState = codes "fault: no state\n"
text_of (Refused line refusal) = string_bytes line
text_of (SameArchive line refusal) = string_bytes line
text_of (Verdict v) = verdict.text_of v
text_of (Clashes a) = clashes.text_of a
text_of (Run a) = run.text_of a
text_of (Imported text) = text.items
text_of NotImported = codes "fault: no bundle says what was read\n"
text_of (Planned a) = plan.text_of a
text_of (InUnison a) = unison.text_of a
text_of (Mended m) = m.text.items
text_of NotMended = codes "fault: the lines were not read as they were meant\n"
text_of NotVerified = codes "fault: a round was not verified\n"
text_of OutOfMemory = codes "fault: out of memory\n"

-- That of lines that were found for a set, which is safe with them or not.
abbrev pub mended_status : Bool → ℕ
mended_status safe = if safe then 0 else 1

-- The status of an answer that was written whole.
abbrev pub status_of : Report → ℕ
status_of (Faulty f) = 2
status_of (Reach a) = reach.status_of a
status_of NoState = 2
status_of (Refused line refusal) = 1
status_of (SameArchive line refusal) = 1
status_of (Verdict v) = 0
status_of (Clashes a) = clashes.status_of a
status_of (Run a) = run.status_of a
status_of (Imported text) = 0
status_of NotImported = 2
status_of (Planned a) = plan.status_of a
status_of (InUnison a) = unison.status_of a
status_of (Mended m) = mended_status m.safe
status_of NotMended = 2
status_of NotVerified = 2
status_of OutOfMemory = 2

-- The lines of an answer that belong on standard error.
abbrev pub undecided_of : Report → List ℕ
undecided_of (Clashes a) = clashes.undecided_of a
undecided_of (InUnison a) = unison.undecided_of a
undecided_of (Planned a) = plan.undecided_of a
undecided_of _ = []

-- Why the input wasn't read to its end, if the answer says so: a read failed, or there were too
-- many.
abbrev pub unread_by : Report → Option InputFault
unread_by (Faulty f) = input.unread_in f
unread_by _ = None

-- The answer says that a read of the input failed.
abbrev pub says_read_failed : Report → Bool
says_read_failed r = some_failed (unread_by r)

-- A set is refused for that fault, by the fault's line. Out of memory is told by itself.
abbrev pub TellsRefusal : Members → CheckFault → Report → Type 0
TellsRefusal S e (Refused line refusal) = (e ≢ fault.OutOfMemory) × (string_bytes line ≡ refusal_line S e)
TellsRefusal S e OutOfMemory = ⊤
TellsRefusal S e _ = ⊥

-- That two profiles of these numbers share an archive is told by its line.
abbrev pub TellsArchive : List Parts → ℕ × ℕ → Report → Type 0
TellsArchive Ps numbers (SameArchive line refusal) = string_bytes line ≡ archive_line Ps numbers
TellsArchive Ps numbers OutOfMemory = ⊤
TellsArchive Ps numbers _ = ⊥

-- A fault has no numbers of profiles, rules or goals, so its line is the same for all sets.
abbrev pub has_no_numbers : CheckFault → Bool
has_no_numbers fault.TooManyProfiles = true
has_no_numbers (fault.SameName name) = true
has_no_numbers (fault.NestedRoots r s) = true
has_no_numbers (fault.AlphabetFault e) = true
has_no_numbers fault.OutOfMemory = true
has_no_numbers _ = false
