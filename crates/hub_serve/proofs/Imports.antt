-- What is true of the input if a bundle is asked for, and the status is 0.
use Rattle.std.proofs.Common.{◌≡◌, ◌∙◌, ℕ, Bool, true, false, cond, List, refl, sym, ap, subst, arith}
use Rattle.std.proofs.lemmas.Bool.{false≢true}
use Rattle.hub_state.specs.State.{State}
use Rattle.std.specs.Prelude.{Option}
use Rattle.hub_bundle.specs.declared.sections.BundleContents.{BundleContents}
use Rattle.hub_bundle.specs.Sections.{Spells}
use Rattle.hub_cli.specs.declared.words.Question.{Question}
use Rattle.hub_cli.specs.declared.words.Reading.{Reading}
use Rattle.hub_cli.specs.declared.words.Reading.TheVariants.{Unison}
use Rattle.hub_cli.specs.Words.{Request, about, imported, mended, planned, reach, reading_for, rounds_alone}
use Rattle.hub_import.specs.Imported.{contents_of}
use Rattle.hub_profile.specs.Parts.{Parts}
use Rattle.hub_report.specs.declared.report.Report.{Report}
use Rattle.hub_report.specs.declared.report.Report.TheVariants as answer
use Rattle.hub_report.specs.declared.reach_answer.ReachAnswer.{ReachAnswer}
use Rattle.hub_report.specs.declared.reach_answer.ReachAnswer.TheVariants.{Reached, NotReached, NoProfile, BadPath}
use Rattle.hub_report.specs.Report.{status_of, text_of}
use Rattle.hub_serve.specs.Plans.{reads_around_faults}
use Rattle.hub_serve.proofs.Planning.{around-faults}
use Rattle.hub_serve.specs.InUnison.{asked_in_unison}
use Rattle.hub_serve.proofs.AskedInUnison.{unasked}
use Rattle.hub_serve.specs.declared.task.Task.{Task}
use Rattle.hub_serve.specs.Shown.{IsWholeUnlessFailed, ShowsImport}
use Rattle.hub_serve.specs.Told.{Holds, IsToldOfReach}
use Rattle.hub_serve.specs.Task.{AsksTask}
use Rattle.hub_serve.specs.Unison.{SpellsAs}
use Rattle.hub_serve.proofs.InUnison.{apart-in_unison}

abbrev is_import : Request → Bool
is_import (about q) = false
is_import (reach reading profile path) = false
is_import imported = true
is_import planned = false
is_import rounds_alone = false
is_import (mended reading as_bundle) = false

other : (request r : Request) → request ≡ imported → request ≡ r → is_import r ≡ false → ⊥
other request r is e isnt = false≢true (sym isnt ∙ ap is_import (sym e ∙ is))

-- It isn't asked for anything about a set,
no-task : (request : Request) (state : Option State) (t : Task) → request ≡ imported → AsksTask request state t → ⊥
no-task request state t is a = other request (about a.of_set) is a.asked refl

-- and not for a path.
no-reach : (request : Request) (Ps : List Parts) (a : ReachAnswer) → request ≡ imported → IsToldOfReach request Ps a → ⊥
no-reach request Ps Reached is h = other request _ is h.asked refl
no-reach request Ps NotReached is h = other request _ is h.asked refl
no-reach request Ps (NoProfile name) is h = other request _ is h.asked refl
no-reach request Ps (BadPath f) is h = other request _ is h.asked refl

-- The status 0 is that of an answer that was written whole.
whole : (failed : Bool) (full status : ℕ) → status ≡ cond failed 2 full → status ≡ 0 → (failed ≡ false) × (full ≡ 0)
whole true full status e z = absurd (omega (arith, e, z))
whole false full status e z = (refl, sym e ∙ z)

shown : (request : Request) (bytes text : List ℕ) (r : Report) → request ≡ imported → text ≡ text_of r → status_of r ≡ 0 → Holds request bytes r → ShowsImport bytes text
shown request bytes text (answer.Faulty f) is l z h = absurd (omega (arith, z))
shown request bytes text (answer.Reach a) is l z h = absurd (no-reach request _ a is h.told)
shown request bytes text answer.NoState is l z h = absurd (omega (arith, z))
shown request bytes text (answer.Refused t f) is l z h = absurd (omega (arith, z))
shown request bytes text (answer.SameArchive t f) is l z h = absurd (omega (arith, z))
shown request bytes text (answer.Verdict v) is l z h = absurd (no-task request _ _ is h.told.asked)
shown request bytes text (answer.Clashes a) is l z h = absurd (no-task request _ _ is h.told.asked)
shown request bytes text (answer.Run a) is l z h = absurd (no-task request _ _ is h.told.asked)
shown request bytes text (answer.Imported t) is l z h =
    let spelled : SpellsAs Unison bytes h.contents = subst (λ q. SpellsAs (reading_for q) bytes h.contents) is h.spelled in
    record {
      contents = h.contents;
      spelled = spelled;
      written = subst (λ x. Spells x (contents_of h.contents.profiles h.contents.rules)) (sym l) h.told.written;
      in_unison = λ safe apart. apart-in_unison bytes h.contents spelled safe apart;
    }
shown request bytes text answer.NotImported is l z h = absurd (omega (arith, z))
shown request bytes text (answer.Planned a) is l z h = absurd (false≢true (sym (ap reads_around_faults is) ∙ around-faults request bytes a h))
shown request bytes text (answer.InUnison a) is l z h = absurd (unasked request bytes a (ap asked_in_unison is) h)
shown request bytes text (answer.Mended m) is l z h = absurd (other request _ is h.asked refl)
shown request bytes text answer.NotMended is l z h = absurd (omega (arith, z))
shown request bytes text answer.NotVerified is l z h = absurd (omega (arith, z))
shown request bytes text answer.OutOfMemory is l z h = absurd (omega (arith, z))

pub only_import : (request : Request) (bytes : List ℕ) (r : Report) (line s : List ℕ) (failed : Bool) (status : ℕ) → request ≡ imported → line ≡ text_of r
    → IsWholeUnlessFailed line (status_of r) failed s status → Holds request bytes r → status ≡ 0 → ShowsImport bytes s
only_import request bytes r line s failed status is l wrote h z =
    let all = whole failed (status_of r) status wrote.status_is z in
    shown request bytes s r is (wrote.whole all.0 ∙ l) all.1 h
