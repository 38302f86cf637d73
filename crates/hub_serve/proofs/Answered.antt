-- From what was written to what is true of the input.
use Rattle.std.proofs.Common.{[], ◌≡◌, ◌∙◌, ◌==◌, ◌≤◌, ◌⊎◌, inl, inr, ℕ, Bool, true, false, cond, Result, Ok, List, ◌∷◌, ◌++◌, length, take, Option, Some, None, codes, refl, sym, ap, subst, arith, length-append, eq-eqb, true≢false}
use Rattle.std.specs.Prelude.{IfOk, IfSome, ⊤}
use Rattle.std.specs.Io.KnownBytes.{Appends, Keeps}
use Rattle.std.proofs.lemmas.List.{append_cancel_left}
use Rattle.std.proofs.lemmas.Option.{none-some, same_Some}
use Rattle.std.proofs.lemmas.Bool.{false≢true}
use Rattle.hub_cli.specs.declared.words.Question.TheVariants as ask
use Rattle.hub_cli.specs.declared.words.Reading.{Reading}
use Rattle.hub_cli.specs.Words.{Request, about, asked_of, imported, mended, reading_for, rounds_alone}
use Rattle.hub_report.specs.declared.report.Report.{Report}
use Rattle.hub_report.specs.declared.clashes_answer.ClashesAnswer.{ClashesAnswer}
use Rattle.hub_report.specs.declared.clashes_answer.ClashesAnswer.TheVariants.{Lines, Graph, Cut}
use Rattle.hub_report.specs.declared.plan_answer.PlanAnswer.{PlanAnswer}
use Rattle.hub_report.specs.declared.plan_answer.PlanAnswer.TheVariants as plan
use Rattle.hub_report.specs.declared.reach_answer.ReachAnswer.{ReachAnswer}
use Rattle.hub_report.specs.declared.reach_answer.ReachAnswer.TheVariants.{Reached, NotReached, NoProfile, BadPath}
use Rattle.hub_report.specs.declared.report.Report.TheVariants.{Reach, Clashes, Run, Planned, InUnison, Mended, OutOfMemory}
use Rattle.hub_report.specs.declared.run_answer.RunAnswer.{RunAnswer}
use Rattle.hub_report.specs.declared.run_answer.RunAnswer.TheVariants.{Ran, RanByRounds, RanInOrder, NotRun, NotRunInOrder}
use Rattle.hub_report.specs.ClashesAnswer as clashes
use Rattle.hub_report.specs.PlanAnswer as plans
use Rattle.hub_report.specs.ReachAnswer as reach
use Rattle.hub_report.specs.UnisonAnswer as answers
use Rattle.hub_report.specs.declared.unison_answer.UnisonAnswer.{UnisonAnswer}
use Rattle.hub_report.specs.declared.unison_answer.UnisonAnswer.TheVariants as unison
use Rattle.hub_report.specs.RunAnswer as run
use Rattle.hub_report.specs.Report.{status_of}
use Rattle.hub_report.specs.laws.Starts.{begins-taken, first}
use Rattle.hub_bundle.specs.declared.input.InputFault.TheVariants.{TurnsSpent}
use Rattle.hub_serve.specs.Reads.{Reads}
use Rattle.hub_serve.specs.Rounds.{BeginsAsClash}
use Rattle.hub_serve.specs.Shown.{IsWholeUnlessFailed, SpellsArchive, SpellsClashes, SpellsGraph, SpellsPlan, SpellsReach, SpellsRounds, SpellsRoundsRun, SpellsRunInOrder}
use Rattle.hub_serve.specs.Told.{Holds}
use Rattle.hub_serve.specs.Serves.{ServesInFull, Answers, AnswersNothing, Begins, WritesText}
use Rattle.hub_serve.specs.Mended.{asks_mend, is_mend}
use Rattle.hub_serve.specs.Shown.{SpellsRounds, SpellsRoundsRun, TellsSafe}
use Rattle.hub_serve.proofs.FirstOf.{OfRounds, rounds-alone-in, rounds-in, safe-in}
use Rattle.hub_serve.specs.Shown.{ShowsImport, ShowsMend, TellsSafe, SpellsUnsafe, SpellsVerified}
use Rattle.hub_serve.proofs.FirstLines.{only_safe, only_archive, only_clashes, only_graph, only_in_order, only_plan, only_rounds, only_verified, only_overlaps, only_breaches, only_reached, only_not_reached}
use Rattle.hub_serve.proofs.Imports.{only_import}
use Rattle.hub_serve.proofs.Mending.{only_mended}
use Rattle.hub_serve.proofs.InUnison.{unreached-in_unison}
use Rattle.hub_serve.proofs.Refused.{OverlapsShown, BreachesShown}

-- What follows the bytes that were there is what was appended.
appended : (old new : Option (List ℕ)) (before more text : List ℕ) → Appends old new more → old ≡ Some before → new ≡ Some (before ++ text) → more ≡ text
appended old new before more text h e f =
    let from_old : Appends (Some before) new more = subst (λ o. Appends o new more) e h in
    let grown : before ++ text ≡ before ++ more = subst (λ n. Appends (Some before) n more) f from_old in
    sym (append_cancel_left before _ _ grown)

module _ (request : Request) (remaining old new : Option (List ℕ)) (reads : Reads) (write_failed : Bool) (status : ℕ) (bytes before : List ℕ) where
  held : (a : Answers request remaining old new reads write_failed status) → remaining ≡ Some bytes → Holds request bytes a.report
  held a e = subst (λ r. IfSome r (λ bs. Holds request bs a.report)) e a.holds

  -- What was written is the whole text of the answer, unless a call of the output failed.
  answer-written : (text : List ℕ) (a : Answers request remaining old new reads write_failed status) → old ≡ Some before → new ≡ Some (before ++ text)
      → IsWholeUnlessFailed a.text (status_of a.report) write_failed text status
  answer-written text a f g =
      let is : take a.writes.written a.text ≡ text = appended old new before _ _ a.writes.appends f g in
      record { written = a.writes.written; text_is = sym is; whole = λ o. sym is ∙ a.writes.whole o; status_is = a.writes.status_is }

  safe-written : (text : List ℕ) → is_mend request ≡ false → Answers request remaining old new reads write_failed status → remaining ≡ Some bytes → old ≡ Some before
      → new ≡ Some (before ++ (codes "safe\n" ++ text)) → TellsSafe (Some request) bytes text write_failed status
  safe-written text o a e f g =
      only_safe request bytes a.report a.text text write_failed status o a.is_text (answer-written (codes "safe\n" ++ text) a f g) (held a e)

  verified-written : (text : List ℕ) → is_mend request ≡ false → Answers request remaining old new reads write_failed status → remaining ≡ Some bytes → old ≡ Some before
      → new ≡ Some (before ++ (codes "verified\n" ++ text)) → SpellsVerified (Some request) bytes
  verified-written text o a e f g = only_verified request bytes a.report a.text a.writes.written _ o a.is_text (appended old new before _ _ a.writes.appends f g) (held a e)

  archive-written : (text : List ℕ) → is_mend request ≡ false → Answers request remaining old new reads write_failed status → remaining ≡ Some bytes → old ≡ Some before
      → new ≡ Some (before ++ (codes "same archive: " ++ text)) → SpellsArchive (Some request) bytes (codes "same archive: " ++ text) write_failed status
  archive-written text o a e f g =
      only_archive request bytes a.report a.text text write_failed status o a.is_text (answer-written (codes "same archive: " ++ text) a f g) (held a e)

  overlap-written : OverlapsShown → (text : List ℕ) → is_mend request ≡ false → Answers request remaining old new reads write_failed status → remaining ≡ Some bytes → old ≡ Some before
      → new ≡ Some (before ++ (codes "overlap: " ++ text)) → SpellsUnsafe (Some request) bytes
  overlap-written shown text o a e f g = only_overlaps shown request bytes a.report a.text a.writes.written _ o a.is_text (appended old new before _ _ a.writes.appends f g) (held a e)

  breach-written : BreachesShown → (text : List ℕ) → is_mend request ≡ false → Answers request remaining old new reads write_failed status → remaining ≡ Some bytes → old ≡ Some before
      → new ≡ Some (before ++ (codes "breach: " ++ text)) → SpellsUnsafe (Some request) bytes
  breach-written shown text o a e f g = only_breaches shown request bytes a.report a.text a.writes.written _ o a.is_text (appended old new before _ _ a.writes.appends f g) (held a e)

  rounds-written : (text : List ℕ) → is_mend request ≡ false → Answers request remaining old new reads write_failed status → remaining ≡ Some bytes → old ≡ Some before
      → new ≡ Some (before ++ (codes "rounds " ++ text))
      → OfRounds (Some request) bytes (codes "rounds " ++ text) write_failed status
  rounds-written text o a e f g =
      only_rounds request bytes a.report a.text text write_failed status o a.is_text (answer-written (codes "rounds " ++ text) a f g) (held a e)

  graph-written : (text : List ℕ) → is_mend request ≡ false → Answers request remaining old new reads write_failed status → remaining ≡ Some bytes → old ≡ Some before
      → new ≡ Some (before ++ (codes "graph clashes {" ++ text))
      → SpellsGraph (Some request) bytes (codes "graph clashes {" ++ text) write_failed status
  graph-written text o a e f g =
      only_graph request bytes a.report a.text text write_failed status o a.is_text (answer-written (codes "graph clashes {" ++ text) a f g) (held a e)

  in_order-written : (text : List ℕ) → is_mend request ≡ false → Answers request remaining old new reads write_failed status → remaining ≡ Some bytes → old ≡ Some before
      → new ≡ Some (before ++ (codes "in order\n" ++ text))
      → SpellsRunInOrder (Some request) bytes (codes "in order\n" ++ text) write_failed status
  in_order-written text o a e f g =
      only_in_order request bytes a.report a.text text write_failed status o a.is_text (answer-written (codes "in order\n" ++ text) a f g) (held a e)

  plan-written : (text : List ℕ) → is_mend request ≡ false → Answers request remaining old new reads write_failed status → remaining ≡ Some bytes → old ≡ Some before
      → new ≡ Some (before ++ (codes "plan 1\n" ++ text))
      → SpellsPlan (Some request) bytes (codes "plan 1\n" ++ text) write_failed status
  plan-written text o a e f g =
      only_plan request bytes a.report a.text text write_failed status o a.is_text (answer-written (codes "plan 1\n" ++ text) a f g) (held a e)

  clashes-written : (reading : Reading) (text : List ℕ) → Answers request remaining old new reads write_failed status → Some request ≡ Some (about (ask.Clashes reading)) → remaining ≡ Some bytes → old ≡ Some before
      → new ≡ Some (before ++ text) → BeginsAsClash text → SpellsClashes reading bytes text write_failed status
  clashes-written reading text a is e f g b =
      only_clashes reading request bytes a.report a.text text write_failed status (same_Some request (about (ask.Clashes reading)) is) a.is_text (answer-written text a f g) (held a e) b

  imported-written : (text : List ℕ) → Answers request remaining old new reads write_failed status → Some request ≡ Some imported → remaining ≡ Some bytes → old ≡ Some before
      → new ≡ Some (before ++ text) → status ≡ 0 → ShowsImport bytes text
  imported-written text a is e f g z =
      only_import request bytes a.report a.text text write_failed status (same_Some request imported is) a.is_text (answer-written text a f g) (held a e) z

  mended-written : (reading : Reading) (as_bundle : Bool) (text : List ℕ) → Answers request remaining old new reads write_failed status → Some request ≡ Some (mended reading as_bundle) → remaining ≡ Some bytes → old ≡ Some before
      → new ≡ Some (before ++ text) → status ≤ 1 → ShowsMend reading as_bundle bytes text status
  mended-written reading as_bundle text a is e f g z =
      only_mended reading as_bundle request bytes a.report a.text text write_failed status (same_Some request (mended reading as_bundle) is) a.is_text (answer-written text a f g) (held a e) z

  reached-written : (text : List ℕ) → is_mend request ≡ false → Answers request remaining old new reads write_failed status → remaining ≡ Some bytes → old ≡ Some before
      → new ≡ Some (before ++ (codes "reached\n" ++ text)) → SpellsReach (Some request) bytes true
  reached-written text o a e f g =
      let h = only_reached request bytes a.report a.text a.writes.written _ o a.is_text (appended old new before _ _ a.writes.appends f g) (held a e) in
      record { request = request; is_asked = refl; contents = h.contents; spelled = h.spelled; answered = h.told; in_unison = λ u f. absurd (true≢false f) }

  not_reached-written : (text : List ℕ) → is_mend request ≡ false → Answers request remaining old new reads write_failed status → remaining ≡ Some bytes → old ≡ Some before
      → new ≡ Some (before ++ (codes "not reached\n" ++ text)) → SpellsReach (Some request) bytes false
  not_reached-written text o a e f g =
      let h = only_not_reached request bytes a.report a.text a.writes.written _ o a.is_text (appended old new before _ _ a.writes.appends f g) (held a e) in
      record {
        request = request;
        is_asked = refl;
        contents = h.contents;
        spelled = h.spelled;
        answered = h.told;
        in_unison = λ u f. unreached-in_unison (reading_for request) bytes h.contents h.spelled h.told.profile h.told.P h.told.p h.told.profile_is h.told.answer_is u;
      }

-- Where the words ask for nothing, no such line is written: what is written begins with an f.
nothing-written : (old new : Option (List ℕ)) (status : ℕ) (before text : List ℕ) (x : ℕ) → AnswersNothing old new status → (102 == x) ≡ false
    → old ≡ Some before → new ≡ Some (before ++ (x ∷ text)) → ⊥
nothing-written old new status before text x a d f g = go a.writes
  where
    kept : Keeps old new → before ++ (x ∷ text) ≡ before
    kept k = subst (λ n. Keeps (Some before) n) g (subst (λ o. Keeps o new) f k)

    go : Keeps old new ⊎ ((written : ℕ) × Appends old new (take written (codes "fault: out of memory\n"))) → ⊥
    go (inl k) = omega (arith, ap length (kept k), length-append before (x ∷ text))
    go (inr w) =
        let front = begins-taken (x ∷ []) (codes "fault: out of memory\n") text w.0 (appended old new before _ _ w.1 f g) in
        let same : 102 ≡ x = ap first front.whole in
        false≢true (sym d ∙ eq-eqb 102 x same)

ends-le : (finished : Bool) → cond finished 0 3 ≤ 3
ends-le true = omega arith
ends-le false = omega arith

decided-le : (decided : Bool) → cond decided 0 1 ≤ 3
decided-le true = omega arith
decided-le false = omega arith

reach-le : (a : ReachAnswer) → reach.status_of a ≤ 3
reach-le Reached = omega arith
reach-le NotReached = omega arith
reach-le (NoProfile name) = omega arith
reach-le (BadPath f) = omega arith

clashes-le : (a : ClashesAnswer) → clashes.status_of a ≤ 3
clashes-le (Lines lines first) = omega arith
clashes-le (Graph g) = decided-le g.safe
clashes-le (Cut c) = decided-le c.decided

plan-le : (a : PlanAnswer) → plans.status_of a ≤ 3
plan-le (plan.Made p) = decided-le p.is_whole
plan-le (plan.Cut c) = decided-le c.decided
plan-le (plan.Refused line refusal) = omega arith
plan-le (plan.BadRules f) = omega arith

unison-le : (a : UnisonAnswer) → answers.status_of a ≤ 3
unison-le unison.Safe = omega arith
unison-le (unison.Refused line refusal) = omega arith
unison-le (unison.Unsearched line refusal) = omega arith
unison-le (unison.SameArchive line refusal) = omega arith
unison-le (unison.Clashes a) = clashes-le a

run-le : (a : RunAnswer) → run.status_of a ≤ 3
run-le (Ran r) = ends-le r.finished
run-le (RanByRounds r) = ends-le r.finished
run-le (RanInOrder r) = ends-le r.finished
run-le (NotRun e) = omega arith
run-le (NotRunInOrder e) = omega arith

status-le : (r : Report) → status_of r ≤ 3
status-le (Reach a) = reach-le a
status-le (Clashes a) = clashes-le a
status-le (Run a) = run-le a
status-le (Planned a) = plan-le a
status-le (InUnison a) = unison-le a
status-le (Mended m) = decided-le m.safe
status-le _ = omega arith

written-le : (failed : Bool) (status result : ℕ) → status ≤ 3 → result ≡ cond failed 2 status → result ≤ 3
written-le true status result l e = omega (arith, e)
written-le false status result l e = omega (arith, e, l)

-- The words ask for something, and that is answered.
pub serves-answer : OverlapsShown → BreachesShown → (request : Request) (remaining old new : Option (List ℕ)) (reads : Reads) (write_failed : Bool) (status : ℕ)
    → Answers request remaining old new reads write_failed status → ServesInFull (Some request) remaining old new reads write_failed status
serves-answer overlaps breaches request remaining old new reads write_failed status a = record {
  first = record {
    few = written-le write_failed (status_of a.report) status (status-le a.report) a.writes.status_is;
    nothing = λ is. absurd (none-some request (sym is));
    safe = λ bytes text o w. safe-in (Some request) bytes text write_failed status (safe bytes text o w);
    verified = λ bytes text o w. verified-written request remaining old new reads write_failed status bytes w.before text o a w.input w.kept w.written;
    same_archive = λ bytes text o w. archive-written request remaining old new reads write_failed status bytes w.before text o a w.input w.kept w.written;
    overlap = λ bytes text o w. overlap-written request remaining old new reads write_failed status bytes w.before overlaps text o a w.input w.kept w.written;
    breach = λ bytes text o w. breach-written request remaining old new reads write_failed status bytes w.before breaches text o a w.input w.kept w.written;
    rounds = λ reading bytes text is w.
        rounds-in (Some request) reading bytes _ write_failed status is (rounds bytes text (ap asks_mend is) w);
    rounds_alone = λ bytes text is w.
        rounds-alone-in (Some request) bytes _ write_failed status is (rounds bytes text (ap asks_mend is) w);
    in_order = λ bytes text o w. in_order-written request remaining old new reads write_failed status bytes w.before text o a w.input w.kept w.written;
    planned = λ bytes text o w. plan-written request remaining old new reads write_failed status bytes w.before text o a w.input w.kept w.written;
    imported = λ bytes text is w z. imported-written request remaining old new reads write_failed status bytes w.before text a is w.input w.kept w.written z;
    reached = λ bytes text o w. reached-written request remaining old new reads write_failed status bytes w.before text o a w.input w.kept w.written;
    not_reached = λ bytes text o w. not_reached-written request remaining old new reads write_failed status bytes w.before text o a w.input w.kept w.written;
  };
  answer = λ other is. subst (λ r. Answers r remaining old new reads write_failed status) (same_Some request other is) a;
  safe = safe;
  rounds = rounds;
  graph = λ bytes text o w. graph-written request remaining old new reads write_failed status bytes w.before text o a w.input w.kept w.written;
  clashes = λ reading bytes text is w b. clashes-written request remaining old new reads write_failed status bytes w.before reading text a is w.input w.kept w.written b;
  mended = λ reading as_bundle bytes text is w z. mended-written request remaining old new reads write_failed status bytes w.before reading as_bundle text a is w.input w.kept w.written z;
}
  where
    safe : (bytes text : List ℕ) → asks_mend (Some request) ≡ false → Begins remaining old new (codes "safe\n") bytes text
        → TellsSafe (Some request) bytes text write_failed status
    safe bytes text o w = safe-written request remaining old new reads write_failed status bytes w.before text o a w.input w.kept w.written

    rounds : (bytes text : List ℕ) → asks_mend (Some request) ≡ false → Begins remaining old new (codes "rounds ") bytes text
        → OfRounds (Some request) bytes (codes "rounds " ++ text) write_failed status
    rounds bytes text o w = rounds-written request remaining old new reads write_failed status bytes w.before text o a w.input w.kept w.written

-- The words ask for nothing.
pub serves-nothing : (remaining old new : Option (List ℕ)) (reads : Reads) (write_failed : Bool) (status : ℕ)
    → AnswersNothing old new status → ServesInFull None remaining old new reads write_failed status
serves-nothing remaining old new reads write_failed status a = record {
  first = record {
    few = omega (arith, a.status_is);
    nothing = λ is. a;
    safe = λ bytes text o w. absurd (nothing-written old new status w.before _ 115 a refl w.kept w.written);
    verified = λ bytes text o w. absurd (nothing-written old new status w.before _ 118 a refl w.kept w.written);
    same_archive = λ bytes text o w. absurd (nothing-written old new status w.before _ 115 a refl w.kept w.written);
    overlap = λ bytes text o w. absurd (nothing-written old new status w.before _ 111 a refl w.kept w.written);
    breach = λ bytes text o w. absurd (nothing-written old new status w.before _ 98 a refl w.kept w.written);
    rounds = λ reading bytes text is w. absurd (none-some (about (ask.Rounds reading)) is);
    rounds_alone = λ bytes text is w. absurd (none-some rounds_alone is);
    in_order = λ bytes text o w. absurd (nothing-written old new status w.before _ 105 a refl w.kept w.written);
    planned = λ bytes text o w. absurd (nothing-written old new status w.before _ 112 a refl w.kept w.written);
    imported = λ bytes text is w z. absurd (none-some imported is);
    reached = λ bytes text o w. absurd (nothing-written old new status w.before _ 114 a refl w.kept w.written);
    not_reached = λ bytes text o w. absurd (nothing-written old new status w.before _ 110 a refl w.kept w.written);
  };
  answer = λ request is. absurd (none-some request is);
  safe = λ bytes text o w. absurd (nothing-written old new status w.before _ 115 a refl w.kept w.written);
  rounds = λ bytes text o w. absurd (nothing-written old new status w.before _ 114 a refl w.kept w.written);
  graph = λ bytes text o w. absurd (nothing-written old new status w.before _ 103 a refl w.kept w.written);
  clashes = λ reading bytes text is w b. absurd (none-some (about (ask.Clashes reading)) is);
  mended = λ reading as_bundle bytes text is w z. absurd (none-some (mended reading as_bundle) is);
}

anything : (r : Option (List ℕ)) → IfSome r (λ _. ⊤)
anything None = tt
anything (Some bytes) = tt

pub memory-nothing : (old new : Option (List ℕ)) (failed : Bool) (status : ℕ) → WritesText old new (codes "fault: out of memory\n") 2 failed status
    → AnswersNothing old new status
memory-nothing old new failed status w = record { status_is = two failed w.status_is; writes = inr (w.written, w.appends) }
  where
    two : (failed : Bool) → status ≡ cond failed 2 2 → status ≡ 2
    two true e = e
    two false e = e

-- The line that memory is out answers every question.
pub memory-answers : (request : Request) (remaining old new : Option (List ℕ)) (reads : Reads) (write_failed : Bool) (status : ℕ)
    → WritesText old new (codes "fault: out of memory\n") 2 write_failed status → Answers request remaining old new reads write_failed status
memory-answers request remaining old new reads write_failed status w = record {
  report = OutOfMemory;
  holds = anything remaining;
  only_failed = λ e. absurd (false≢true e);
  all_failed = λ e. inr refl;
  spent = λ e. absurd (none-some TurnsSpent e);
  whole = λ e. inr refl;
  text = codes "fault: out of memory\n";
  is_text = refl;
  writes = w;
}

-- And it is right for words that ask for something and for those that don't.
pub serves-memory : OverlapsShown → BreachesShown → (asked : Option Request) (remaining old new : Option (List ℕ)) (reads : Reads) (write_failed : Bool) (status : ℕ)
    → WritesText old new (codes "fault: out of memory\n") 2 write_failed status → ServesInFull asked remaining old new reads write_failed status
serves-memory overlaps breaches None remaining old new reads write_failed status w =
    serves-nothing remaining old new reads write_failed status (memory-nothing old new write_failed status w)
serves-memory overlaps breaches (Some request) remaining old new reads write_failed status w =
    serves-answer overlaps breaches request remaining old new reads write_failed status (memory-answers request remaining old new reads write_failed status w)

-- Words that are refused ask for nothing, unless memory is out.
pub serves-refused : {T : Type 0} → OverlapsShown → BreachesShown → (kind none : T) (asked : Option Request) (remaining old new : Option (List ℕ)) (reads : Reads) (write_failed : Bool) (status : ℕ)
    → (kind ≡ none) ⊎ (asked ≡ None) → (kind ≡ none → WritesText old new (codes "fault: out of memory\n") 2 write_failed status) → AnswersNothing old new status
    → ServesInFull asked remaining old new reads write_failed status
serves-refused overlaps breaches kind none asked remaining old new reads write_failed status (inl e) memory a =
    serves-memory overlaps breaches asked remaining old new reads write_failed status (memory e)
serves-refused overlaps breaches kind none asked remaining old new reads write_failed status (inr e) memory a =
    subst (λ o. ServesInFull o remaining old new reads write_failed status) (sym e) (serves-nothing remaining old new reads write_failed status a)

pub serves-asked : OverlapsShown → BreachesShown → (asked : Option Request) (request : Request) (remaining old new : Option (List ℕ)) (reads : Reads) (write_failed : Bool) (status : ℕ)
    → asked ≡ Some request → Answers request remaining old new reads write_failed status → ServesInFull asked remaining old new reads write_failed status
serves-asked overlaps breaches asked request remaining old new reads write_failed status is a =
    subst (λ o. ServesInFull o remaining old new reads write_failed status) (sym is) (serves-answer overlaps breaches request remaining old new reads write_failed status a)

-- Words that are the same ask for the same.
pub serves-same : (words same : List (List ℕ)) (remaining old new : Option (List ℕ)) (reads : Reads) (write_failed : Bool) (status : ℕ)
    → words ≡ same → ServesInFull (asked_of words) remaining old new reads write_failed status → ServesInFull (asked_of same) remaining old new reads write_failed status
serves-same words same remaining old new reads write_failed status e h =
    subst (λ ws. ServesInFull (asked_of ws) remaining old new reads write_failed status) e h

pub ok-holds : {T E : Type 0} (r : Result T E) (v : T) (P : T → Type 0) → r ≡ Ok v → P v → IfOk r P
ok-holds r v P e h = subst (λ x. IfOk x P) (sym e) h
