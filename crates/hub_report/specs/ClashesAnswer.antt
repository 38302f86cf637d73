-- The text and the status of the answer with what clashes in a set, or with its rounds.
use Rattle.std.specs.Prelude.{ℕ, List, [], if◌then◌else◌, string_bytes}
use Rattle.hub_report.specs.declared.clashes_answer.ClashesAnswer.{ClashesAnswer}
use Rattle.hub_report.specs.declared.clashes_answer.ClashesAnswer.TheVariants.{Lines, Graph, Cut}

abbrev pub text_of : ClashesAnswer → List ℕ
text_of (Lines lines first) = string_bytes lines
text_of (Graph g) = string_bytes g.text
text_of (Cut c) = string_bytes c.text

abbrev pub status_of : ClashesAnswer → ℕ
status_of (Lines lines first) = 1
status_of (Graph g) = if g.safe then 0 else 1
status_of (Cut c) = if c.decided then 0 else 1

-- The lines that belong on standard error.
abbrev pub undecided_of : ClashesAnswer → List ℕ
undecided_of (Lines lines first) = []
undecided_of (Graph g) = []
undecided_of (Cut c) = string_bytes c.undecided
