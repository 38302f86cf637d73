-- What is true of the input if lines that make it safe are asked for, and the status is 0 or 1.
use Rattle.std.proofs.Common.{◌≡◌, ◌∙◌, ◌≤◌, ℕ, Bool, true, false, cond, List, Option, refl, sym, ap, subst, arith}
use Rattle.std.proofs.lemmas.Bool.{false≢true}
use Rattle.hub_state.specs.State.{State}
use Rattle.hub_cli.specs.declared.words.Reading.{Reading}
use Rattle.hub_cli.specs.declared.words.Reading.TheVariants.{Unison}
use Rattle.hub_cli.specs.Words.{Request, mended}
use Rattle.hub_mend.specs.Additions.{mended_text}
use Rattle.hub_profile.specs.Parts.{Parts}
use Rattle.hub_report.specs.declared.mended.Mended.{Mended}
use Rattle.hub_report.specs.declared.report.Report.{Report}
use Rattle.hub_report.specs.declared.report.Report.TheVariants as answer
use Rattle.hub_report.specs.declared.reach_answer.ReachAnswer.{ReachAnswer}
use Rattle.hub_report.specs.declared.reach_answer.ReachAnswer.TheVariants.{Reached, NotReached, NoProfile, BadPath}
use Rattle.hub_report.specs.Report.{status_of, text_of}
use Rattle.hub_serve.specs.Plans.{reads_around_faults}
use Rattle.hub_serve.proofs.Planning.{around-faults}
use Rattle.hub_serve.specs.InUnison.{asked_in_unison}
use Rattle.hub_serve.proofs.AskedInUnison.{unasked}
use Rattle.hub_serve.specs.declared.task.Task.{Task}
use Rattle.hub_serve.specs.Mended.{is_mend, mend_text}
use Rattle.hub_serve.specs.Shown.{IsWholeUnlessFailed, ShowsMend}
use Rattle.hub_serve.specs.Told.{Holds, IsMended, IsMendedAs, IsToldOfReach}
use Rattle.hub_serve.specs.Task.{AsksTask}
use Rattle.hub_serve.proofs.SafeTogether.{nothing-safe}

module _ (reading : Reading) (as_bundle : Bool) where
  other : (request r : Request) → request ≡ mended reading as_bundle → request ≡ r → is_mend r ≡ false → ⊥
  other request r is e isnt = false≢true (sym isnt ∙ ap is_mend (sym e ∙ is))

  -- It isn't asked for anything about a set,
  no-task : (request : Request) (state : Option State) (t : Task) → request ≡ mended reading as_bundle → AsksTask request state t → ⊥
  no-task request state t is a = other request _ is a.asked refl

  -- and not for a path.
  no-reach : (request : Request) (Ps : List Parts) (a : ReachAnswer) → request ≡ mended reading as_bundle → IsToldOfReach request Ps a → ⊥
  no-reach request Ps Reached is h = other request _ is h.asked refl
  no-reach request Ps NotReached is h = other request _ is h.asked refl
  no-reach request Ps (NoProfile name) is h = other request _ is h.asked refl
  no-reach request Ps (BadPath f) is h = other request _ is h.asked refl

  -- The words ask for one reading and one form.
  same-reading : (d : Reading) (b : Bool) → mended d b ≡ mended reading as_bundle → d ≡ reading
  same-reading d b e = cc

  same-form : (d : Reading) (b : Bool) → mended d b ≡ mended reading as_bundle → b ≡ as_bundle
  same-form d b e = cc

  found : (request : Request) (bytes text : List ℕ) (m : Mended) (status : ℕ) → request ≡ mended reading as_bundle → text ≡ m.text.items → status ≡ cond m.safe 0 1
      → IsMended request bytes m → ShowsMend reading as_bundle bytes text status
  found request bytes text m status is l e h =
      let asks : mended h.reading h.as_bundle ≡ mended reading as_bundle = sym h.asked ∙ is in
      let said : IsMendedAs reading bytes h.pieces m.safe h.line =
      subst (λ d. IsMendedAs d bytes h.pieces m.safe h.line) (same-reading h.reading h.as_bundle asks) h.mended in
      record {
        pieces = h.pieces;
        safe = m.safe;
        line = h.line;
        mended = said;
        text_is = l ∙ h.text_is ∙ ap (λ b. mend_text b h.pieces h.line) (same-form h.reading h.as_bundle asks);
        status_is = e;
        in_unison = λ u s.
            let in_unison : IsMendedAs Unison bytes h.pieces m.safe h.line = subst (λ d. IsMendedAs d bytes h.pieces m.safe h.line) u said in
            let safe : IsMendedAs Unison bytes h.pieces true h.line = subst (λ b. IsMendedAs Unison bytes h.pieces b h.line) s in_unison in
            nothing-safe (mended_text h.pieces) safe.1.0;
      }

  shown : (request : Request) (bytes text : List ℕ) (r : Report) (status : ℕ) → request ≡ mended reading as_bundle → text ≡ text_of r → status ≡ status_of r → status ≤ 1
      → Holds request bytes r → ShowsMend reading as_bundle bytes text status
  shown request bytes text (answer.Faulty f) status is l e z h = absurd (omega (arith, e, z))
  shown request bytes text (answer.Reach a) status is l e z h = absurd (no-reach request _ a is h.told)
  shown request bytes text answer.NoState status is l e z h = absurd (omega (arith, e, z))
  shown request bytes text (answer.Refused t f) status is l e z h = absurd (no-task request _ _ is h.told.asked)
  shown request bytes text (answer.SameArchive t f) status is l e z h = absurd (no-task request _ _ is h.told.asked)
  shown request bytes text (answer.Verdict v) status is l e z h = absurd (no-task request _ _ is h.told.asked)
  shown request bytes text (answer.Clashes a) status is l e z h = absurd (no-task request _ _ is h.told.asked)
  shown request bytes text (answer.Run a) status is l e z h = absurd (no-task request _ _ is h.told.asked)
  shown request bytes text (answer.Imported t) status is l e z h = absurd (other request _ is h.told.asked refl)
  shown request bytes text answer.NotImported status is l e z h = absurd (omega (arith, e, z))
  shown request bytes text (answer.Planned a) status is l e z h = absurd (false≢true (sym (ap reads_around_faults is) ∙ around-faults request bytes a h))
  shown request bytes text (answer.InUnison a) status is l e z h = absurd (unasked request bytes a (ap asked_in_unison is) h)
  shown request bytes text (answer.Mended m) status is l e z h = found request bytes text m status is l e h
  shown request bytes text answer.NotMended status is l e z h = absurd (omega (arith, e, z))
  shown request bytes text answer.NotVerified status is l e z h = absurd (omega (arith, e, z))
  shown request bytes text answer.OutOfMemory status is l e z h = absurd (omega (arith, e, z))

  -- The status 0 or 1 is that of an answer that was written whole.
  whole : (failed : Bool) (full status : ℕ) → status ≡ cond failed 2 full → status ≤ 1 → (failed ≡ false) × (status ≡ full)
  whole true full status e z = absurd (omega (arith, e, z))
  whole false full status e z = (refl, e)

  pub only_mended : (request : Request) (bytes : List ℕ) (r : Report) (line s : List ℕ) (failed : Bool) (status : ℕ) → request ≡ mended reading as_bundle → line ≡ text_of r
      → IsWholeUnlessFailed line (status_of r) failed s status → Holds request bytes r → status ≤ 1 → ShowsMend reading as_bundle bytes s status
  only_mended request bytes r line s failed status is l wrote h z =
      let all = whole failed (status_of r) status wrote.status_is z in
      shown request bytes s r status is (wrote.whole all.0 ∙ l) all.1 z h
