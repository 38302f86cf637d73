-- A desk as contracts see it. What lies under its lock no clause can name.
use Rattle.std.specs.Prelude.{◌+◌, ℕ, List, sum}
use Rattle.hub_job.specs.declared.answer.Answer.{Answer}
use Rattle.hub_job.specs.declared.op.Op.{Op}
use Rattle.hub_history.specs.Book.{BookAnswers, BookValue, IsBook}

-- How many seats it has, and how long the history was when it was opened.
pub record DeskValue : Type 0 where
  pub seats : ℕ
  pub start : ℕ

abbrev pub desk_of : ℕ → ℕ → DeskValue
desk_of n start = record { seats = n; start = start }

-- How long the history is if just these seats have stepped at the desk since.
abbrev pub counted_by : DeskValue → List ℕ → ℕ
counted_by D seats = D.start + sum seats

-- Some book gives this answer to the job's operation.
abbrev pub SomeBookAnswers : ℕ → Op → Answer → Type 0
SomeBookAnswers job op a = (B : BookValue) × IsBook B × BookAnswers B job op a
