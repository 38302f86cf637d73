-- The text and the status of the answer about profiles as Unison may run them.
use Rattle.std.specs.Prelude.{ℕ, List, [], codes, string_bytes}
use Rattle.hub_report.specs.ClashesAnswer as clashes
use Rattle.hub_report.specs.declared.unison_answer.UnisonAnswer.{UnisonAnswer}
use Rattle.hub_report.specs.declared.unison_answer.UnisonAnswer.TheVariants.{Safe, Refused, Unsearched, SameArchive, Clashes}

abbrev pub text_of : UnisonAnswer → List ℕ
text_of Safe = codes "safe\n"
text_of (Refused line refusal) = string_bytes line
text_of (Unsearched line refusal) = string_bytes line
text_of (SameArchive line refusal) = string_bytes line
text_of (Clashes a) = clashes.text_of a

abbrev pub status_of : UnisonAnswer → ℕ
status_of Safe = 0
status_of (Refused line refusal) = 1
status_of (Unsearched line refusal) = 1
status_of (SameArchive line refusal) = 1
status_of (Clashes a) = clashes.status_of a

-- The lines that belong on standard error.
abbrev pub undecided_of : UnisonAnswer → List ℕ
undecided_of (Clashes a) = clashes.undecided_of a
undecided_of _ = []
