-- What is answered where lines are asked for.
use Rattle.std.proofs.Common.{◌≡◌, ◌∙◌, ℕ, Bool, true, List, Some, Option, refl, sym, subst}
use Rattle.std.proofs.lemmas.Option.{same_Some}
use Rattle.hub_cert.specs.Set.{IsSafeSet}
use Rattle.hub_cert.specs.declared.fault.CheckFault.{CheckFault}
use Rattle.hub_state.specs.State.{State}
use Rattle.hub_bundle.specs.declared.sections.BundleContents.{BundleContents}
use Rattle.hub_bundle.specs.Sections.{Spells, members}
use Rattle.hub_cli.specs.declared.words.Question.TheVariants as ask
use Rattle.hub_cli.specs.declared.words.Reading.{Reading}
use Rattle.hub_cli.specs.declared.words.Reading.TheVariants.{Plain}
use Rattle.hub_cli.specs.Words.{Request, about, mended}
use Rattle.hub_mend.specs.Additions.{mended_text, own_text}
use Rattle.hub_mend.specs.TakesAway.{AllTakeAway}
use Rattle.hub_mend.specs.declared.piece.Piece.{Piece}
use Rattle.hub_report.specs.declared.mended.Mended.{Mended}
use Rattle.hub_report.specs.declared.report.Report.{Report}
use Rattle.hub_report.specs.declared.report.Report.TheVariants as answer
use Rattle.hub_report.specs.declared.verdict.Verdict.TheVariants.{Safe}
use Rattle.hub_report.specs.Report.{TellsRefusal}
use Rattle.hub_serve.specs.declared.task.Task.{Task}
use Rattle.hub_serve.specs.declared.task.Task.TheVariants as task
use Rattle.hub_serve.specs.Mended.{Mends, mend_text}
use Rattle.hub_serve.specs.Told.{Holds, IsMendedAs, IsRefusedFor, IsTold, IsToldRefused}
use Rattle.hub_serve.specs.Task.{AsksTask, task_of}

-- The question whether a set is safe asks for nothing else.
asked-check : (state : Option State) (t : Task) → AsksTask (about (ask.Check Plain)) state t → task.Check Plain ≡ t
asked-check state t a =
    let q_is : a.of_set ≡ ask.Check Plain = cc in
    same_Some (task.Check Plain) t (subst (λ q. task_of q state ≡ Some t) q_is a.task_is)

-- Why it refuses a bundle.
pub check-refused : (c : BundleContents) (r : Report) → IsToldRefused (about (ask.Check Plain)) c r
    → (e : CheckFault) × IsRefusedFor (task.Check Plain) c e × TellsRefusal (members c) e r
check-refused c r h =
    (h.reason, subst (λ t. IsRefusedFor t c h.reason) (sym (asked-check c.state h.to_do h.asked)) h.refused, h.told)

pub check-safe : (c : BundleContents) → IsTold (about (ask.Check Plain)) c (answer.Verdict Safe) → IsSafeSet (members c)
check-safe c h = h.told.1

-- Lines that were found are the answer.
pub mended-holds : (reading : Reading) (as_bundle : Bool) (bytes : List ℕ) (pieces : List Piece) (line : List ℕ) (m : Mended)
    → IsMendedAs reading bytes pieces m.safe line → m.text.items ≡ mend_text as_bundle pieces line
    → Holds (mended reading as_bundle) bytes (answer.Mended m)
mended-holds reading as_bundle bytes pieces line m said is = record {
  reading = reading;
  as_bundle = as_bundle;
  asked = refl;
  pieces = pieces;
  line = line;
  mended = said;
  text_is = is;
}

-- The bundle with the lines says this.
pub mends-from : (bytes : List ℕ) (pieces : List Piece) (old new : BundleContents) → Spells bytes old → bytes ≡ own_text pieces
    → Spells (mended_text pieces) new → AllTakeAway old.profiles new.profiles → new.rules ≡ old.rules → Mends bytes pieces new
mends-from bytes pieces old new spelled cut with_lines takes_away rules =
    record { old = old; spelled = spelled; cut = cut; with_lines = with_lines; takes_away = takes_away; rules = rules }
