-- What is true of the input if what is written begins with these letters.
use Rattle.std.proofs.Common.{◌≡◌, ◌≢◌, ◌∙◌, ◌⊎◌, inl, inr, ℕ, Bool, true, false, cond, List, [], ◌∷◌, ◌++◌, take, String, Global, append-nil, None, Some, codes, refl, sym, ap, subst, arith}
use Rattle.std.specs.Prelude.{⊤, string_bytes}
use Rattle.std.proofs.lemmas.Bool.{false≢true}
use Rattle.std.proofs.lemmas.List.{append_cancel_left}
use Rattle.std.proofs.lemmas.Option.{get_or_from_slice_get, slice_get_within}
use Rattle.hub_cert.specs.Refused.{IsRefused}
use Rattle.hub_cert.specs.Set.{Members, IsSafeSet}
use Rattle.hub_cert.specs.declared.fault.CheckFault.{CheckFault}
use Rattle.hub_search.specs.Search.{Disproves}
use Rattle.hub_state.specs.Writing.{state_text}
use Rattle.hub_bundle.specs.declared.sections.BundleContents.{BundleContents}
use Rattle.hub_bundle.specs.Sections.{Spells, members}
use Rattle.hub_report.specs.declared.report.Report.{Report}
use Rattle.hub_report.specs.declared.report.Report.TheVariants as answer
use Rattle.hub_report.specs.declared.clashes_answer.ClashesAnswer.{ClashesAnswer}
use Rattle.hub_report.specs.declared.clashes_answer.ClashesAnswer.TheVariants.{Lines, Graph, Cut}
use Rattle.hub_report.specs.declared.plan_answer.PlanAnswer.{PlanAnswer}
use Rattle.hub_report.specs.declared.plan_answer.PlanAnswer.TheVariants.{Made, BadRules}
use Rattle.hub_report.specs.declared.plan_answer.PlanAnswer.TheVariants as planned
use Rattle.hub_report.specs.declared.reach_answer.ReachAnswer.{ReachAnswer}
use Rattle.hub_report.specs.declared.reach_answer.ReachAnswer.TheVariants.{Reached, NotReached, NoProfile, BadPath}
use Rattle.hub_report.specs.declared.run_answer.RunAnswer.{RunAnswer}
use Rattle.hub_report.specs.declared.run_answer.RunAnswer.TheVariants.{Ran, RanByRounds, RanInOrder, NotRun, NotRunInOrder}
use Rattle.hub_report.specs.declared.verdict.Verdict.{Verdict}
use Rattle.hub_report.specs.declared.verdict.Verdict.TheVariants.{Safe, Verified, Certified}
use Rattle.hub_report.specs.declared.run.Run as run
use Rattle.hub_job.specs.declared.run_fault.RunFault.{RunFault}
use Rattle.hub_report.specs.Report.{has_no_numbers, status_of, text_of}
use Rattle.hub_report.specs.ClashesAnswer as clashes
use Rattle.hub_report.specs.PlanAnswer as plans
use Rattle.hub_report.specs.ReachAnswer as reach
use Rattle.hub_report.specs.RunAnswer as runs
use Rattle.hub_report.specs.Verdict as verdict
use Rattle.hub_report.specs.Refusal.{refusal_line}
use Rattle.hub_report.specs.Jobs.{lines_of_jobs}
use Rattle.hub_report.specs.Run.{error_line}
use Rattle.hub_report.specs.laws.Starts.{HoldsOfStarts, Start, SafeStart, VerifiedStart, OverlapStart, BreachStart, TooLargeStart, NestedStart}
use Rattle.hub_report.specs.laws.Starts.{RoundsStart, GraphStart, ReachedStart, NotReachedStart, ArchiveStart, PlanStart, OrderStart, start, begins-taken}
use Rattle.hub_report.specs.laws.Starts.{lines-start, refusal-start}
use Rattle.hub_cli.specs.declared.words.Question.{Question}
use Rattle.hub_cli.specs.declared.words.Question.TheVariants as ask
use Rattle.hub_cli.specs.declared.words.Reading.{Reading}
use Rattle.hub_cli.specs.declared.words.Reading.TheVariants.{Plain}
use Rattle.hub_cli.specs.Words.{Request, about, reading_for}
use Rattle.hub_cli.specs.Words as question
use Rattle.hub_serve.specs.declared.task.Task.{Task}
use Rattle.hub_serve.specs.declared.task.Task.TheVariants as task
use Rattle.hub_report.specs.declared.told.Refusal.{Refusal}
use Rattle.hub_serve.specs.InUnison.{asked_in_unison}
use Rattle.hub_serve.specs.Shown.{SpellsArchive}
use Rattle.hub_serve.specs.Plans.{CutsAlone, IsPlan, PlanHolds}
use Rattle.hub_preferences.specs.Counted.{counted_bundle}
use Rattle.hub_serve.specs.Shown.{IsWholeUnlessFailed, ListsAs, ShowsClashes, ShowsRounds, ShowsRoundsAlone, ShowsRoundsRun, SpellsUnsafeAs}
use Rattle.hub_serve.specs.Told.{IsRefusedFor, IsTrueOf, Holds, SharesArchive, may_say_safe}
use Rattle.hub_serve.specs.Shown.{SpellsRunInOrder}
use Rattle.hub_serve.specs.Shown.{SpellsClashes, SpellsGraph, SpellsPlan, SpellsRounds, SpellsRoundsAlone, SpellsRoundsRun, TellsSafe, SpellsUnsafe, SpellsVerified}
use Rattle.hub_serve.specs.Rounds.{BeginsAsClash, DrawsClashes, ListsClashes, WritesRounds}
use Rattle.hub_serve.specs.Runs.{HasRunAs, IsBelow, IsPrevented}
use Rattle.hub_serve.specs.Mended.{is_mend}
use Rattle.hub_serve.specs.Task.{AsksTask, reading_in}
use Rattle.hub_serve.specs.Unison.{SpellsAs}
use Rattle.hub_serve.proofs.BundleStart.{bundle-start}
use Rattle.hub_serve.proofs.AskedInUnison.{plain-asked}
use Rattle.hub_serve.proofs.FirstInUnison.{unison-means, unplanned-means}
use Rattle.hub_serve.proofs.Means.{AreClashes, Means}
use Rattle.hub_serve.proofs.Placed.{each-once, plan-places}
use Rattle.hub_serve.proofs.PlansInUnison.{plan-in_unison, plan-keeps}
use Rattle.hub_serve.proofs.Planning.{unplannable-no_numbers}
use Rattle.hub_serve.proofs.SafeTogether.{rounds-alone-safe}
use Rattle.hub_serve.proofs.Asking.{asks, reading-for-task, unrefused}
use Rattle.hub_serve.proofs.Refused.{BreachesShown, OverlapsShown, breach-refused, overlap-refused}
use Rattle.hub_serve.proofs.RunInOrder.{in_order-shown, in_order-unrun, other-is-3, run_status, zero-finished}

-- Where no jobs are to be run, nothing is below `safe`.
check-below : (t : Task) (M : Members) → may_say_safe t ≡ true → IsBelow t M 0 []
check-below (task.Check reading) M is = (refl, refl)
check-below (task.Clashes reading) M is = (refl, refl)
check-below _ M is = absurd (false≢true is)

-- What jobs left is below `safe`,
ran-below : (t : Task) (M : Members) (r : run.Run) → HasRunAs t M r → IsBelow t M (run_status r.finished) (string_bytes r.lines ++ state_text r.state)
ran-below t M r h =
    subst (λ u. IsBelow u M (run_status r.finished) (string_bytes r.lines ++ state_text r.state)) (sym h.task_is)
    (inl (
      h.may,
      record {
        outcome = h.run.outcome;
        run = h.run.run;
        text = ap (λ ls. ls ++ state_text r.state) h.run.lines ∙ ap (λ S. lines_of_jobs M.profiles h.run.outcome.jobs ++ state_text S) h.run.left;
        finished = (λ z. h.run.finished.0 (zero-finished r.finished z), λ f. ap run_status (h.run.finished.1 f));
        others = other-is-3 r.finished;
      },
    ))

-- or why they weren't run.
error-below : (t : Task) (M : Members) (f : RunFault) → IsPrevented t M f → IsBelow t M 3 (error_line f)
error-below t M f h =
    subst (λ u. IsBelow u M 3 (error_line f)) (sym h.task_is) (inr (record { error = f; reason = h.reason; text = refl; status_is = refl }))

-- What a bundle spells as it was asked for, it spells as a request that is the same asks for.
spelled-for : (request other : Request) (bytes : List ℕ) (c : BundleContents) → request ≡ other → SpellsAs (reading_for request) bytes c → SpellsAs (reading_for other) bytes c
spelled-for request other bytes c is h = subst (λ r. SpellsAs (reading_for r) bytes c) is h

-- A bundle whose set isn't safe, where the words want its profiles to be read plainly.
unsafe-as : (request : Request) (bytes : List ℕ) (c : BundleContents) → reading_for request ≡ Plain → Spells bytes c → (IsSafeSet (members c) → ⊥) → SpellsUnsafe (Some request) bytes
unsafe-as request bytes c plain spelled unsafe =
    record { request = request; is_asked = refl; unsafe = subst (λ r. SpellsUnsafeAs r bytes) (sym plain) (c, spelled, unsafe) }

-- It is true of the start of the line of a refusal,
refusal-means : (request : Request) (bytes line : List ℕ) (status : ℕ) (c : BundleContents) (t : Task) (e : CheckFault) → reading_for request ≡ Plain → Spells bytes c → AsksTask request c.state t → IsRefusedFor t c e
    → Means request bytes line status (start (refusal_line (members c) e))
refusal-means request bytes line status c t e plain spelled asked refused =
    refusal-start (Means request bytes line status) (members c) e (record {
      other = tt;
      overlap = λ w o place held path is. (
        λ shown. unsafe-as request bytes c plain spelled (overlap-refused shown t c w o place held path (subst (IsRefusedFor t c) is refused)),
        λ reading asks. absurd (subst (IsRefused (members c)) is (unrefused reading request c t e asked asks refused)),
      );
      breach = λ p k path is. (
        λ shown. unsafe-as request bytes c plain spelled (breach-refused shown t c p k path (subst (IsRefusedFor t c) is refused)),
        λ reading asks. absurd (subst (IsRefused (members c)) is (unrefused reading request c t e asked asks refused)),
      );
      too_large = λ g is. λ reading asks. absurd (subst (IsRefused (members c)) is (unrefused reading request c t e asked asks refused));
    })

-- of that of the lines of what clashes,
clashes-mean : (request : Request) (bytes line : List ℕ) (c : BundleContents) → reading_for request ≡ Plain → Spells bytes c → ListsClashes Plain (members c) line
    → Means request bytes line 1 (start line)
clashes-mean request bytes line c plain spelled h =
    subst (λ t. Means request bytes line 1 (start t)) (sym h.text_is)
    (lines-start (Means request bytes line 1) (members c) h.lines [] (λ none. tt) (λ n e at. each e (h.disproved e (n, slice_get_within h.lines n e at, get_or_from_slice_get h.lines n e e at))))
  where
    says : AreClashes request bytes line 1
    says reading asks = record {
      listed = subst (λ r. ListsAs r bytes line) (sym plain ∙ ap reading_for asks) (c, spelled, h);
      status_is = refl;
    }

    each : (e : CheckFault) → Disproves (members c) e → HoldsOfStarts (Means request bytes line 1) e
    each e d = record {
      other = tt;
      overlap = λ w o place held path is. (λ shown. unsafe-as request bytes c plain spelled (subst (Disproves (members c)) is d), says);
      breach = λ p k path is. (λ shown. unsafe-as request bytes c plain spelled (subst (Disproves (members c)) is d), says);
      too_large = λ g is. says;
    }

-- of that of the answer whether a path is reached,
reach-means : (request : Request) (bytes : List ℕ) (a : ReachAnswer) (line : List ℕ) → line ≡ reach.text_of a → IsTrueOf request bytes (answer.Reach a)
    → Means request bytes line (reach.status_of a) (start line)
reach-means request bytes Reached line l h = subst (λ t. Means request bytes line 0 (start t)) (sym l) h
reach-means request bytes NotReached line l h = subst (λ t. Means request bytes line 0 (start t)) (sym l) h
reach-means request bytes (NoProfile n) line l h = subst (λ t. Means request bytes line 2 (start t)) (sym l) tt
reach-means request bytes (BadPath f) line l h = subst (λ t. Means request bytes line 2 (start t)) (sym l) tt

-- of that of `safe` with what is to follow it,
safe-means : (request : Request) (bytes line : List ℕ) (status : ℕ) (c : BundleContents) (t : Task) (below : List ℕ) → line ≡ codes "safe\n" ++ below → reading_for request ≡ Plain → Spells bytes c → AsksTask request c.state t
    → IsSafeSet (members c) → IsBelow t (members c) status below → Means request bytes line status (start line)
safe-means request bytes line status c t below l plain spelled asked safe below_is =
    subst (λ text. Means request bytes line status (start text)) (sym l) (
      below,
      l,
      inl (record {
        of_set = asked.of_set;
        is_asked = ap Some asked.asked;
        plain = sym (ap reading_for asked.asked) ∙ plain;
        contents = c;
        spelled = spelled;
        to_do = t;
        to_do_is = asked.task_is;
        safe = safe;
        below = below_is;
      }),
    )

-- An answer about a set reads the profiles plainly, if the words aren't about Unison.
plain-of : (request : Request) (bytes : List ℕ) (c : BundleContents) (t : Task) → asked_in_unison request ≡ None → AsksTask request c.state t → SpellsAs (reading_for request) bytes c → (reading_for request ≡ Plain) × Spells bytes c
plain-of request bytes c t whole asked spelled =
    let plain = plain-asked request c.state t asked whole in
    (plain, subst (λ r. SpellsAs r bytes c) plain spelled)

-- of a verdict,
verdict-means : (request : Request) (bytes : List ℕ) (v : Verdict) (line : List ℕ) → line ≡ verdict.text_of v → IsTrueOf request bytes (answer.Verdict v)
    → Means request bytes line 0 (start line)
verdict-means request bytes Safe line l h =
    let p = plain-of request bytes h.contents h.told.to_do h.whole h.told.asked h.spelled in
    safe-means request bytes line 0 h.contents h.told.to_do [] l p.0 p.1 h.told.asked h.told.told.1 (check-below h.told.to_do (members h.contents) h.told.told.0)
verdict-means request bytes Verified line l h =
    let asked = asks request h.contents.state task.Verify (subst (AsksTask request h.contents.state) h.told.told.0 h.told.asked) in
    subst (λ t. Means request bytes line 0 (start t)) (sym l) (record {
      is_asked = ap Some asked;
      contents = h.contents;
      spelled = spelled-for request (about ask.Verify) bytes h.contents asked h.spelled;
      inductive = h.told.told.1;
      safe = h.told.told.2;
    })
verdict-means request bytes (Certified text) line l h =
    subst (λ t. Means request bytes line 0 (start t)) (sym (l ∙ h.told.told.1.text_is)) tt

-- of what clashes in the set,
clashes-answer-means : (request : Request) (bytes : List ℕ) (a : ClashesAnswer) (line : List ℕ) → line ≡ clashes.text_of a
    → IsTrueOf request bytes (answer.Clashes a) → Means request bytes line (clashes.status_of a) (start line)
clashes-answer-means request bytes (Lines text first) line l h =
    let p = plain-of request bytes h.contents h.told.to_do h.whole h.told.asked h.spelled in
    let same = reading-for-task request h.contents.state h.told.to_do h.told.asked ∙ p.0 in
    let listed = subst (λ reading. ListsClashes reading (members h.contents) (string_bytes text)) same h.told.told.1 in
    clashes-mean request bytes line h.contents p.0 p.1 (subst (ListsClashes Plain (members h.contents)) (sym l) listed)
clashes-answer-means request bytes (Graph g) line l h =
    let p = plain-of request bytes h.contents h.told.to_do h.whole h.told.asked h.spelled in
    let reading = reading_in h.told.to_do in
    let same : reading ≡ Plain = reading-for-task request h.contents.state h.told.to_do h.told.asked ∙ p.0 in
    let drawn : DrawsClashes Plain (members h.contents) line g.safe =
    subst (λ t. DrawsClashes Plain (members h.contents) t g.safe) (sym l)
    (subst (λ r. DrawsClashes r (members h.contents) (string_bytes g.text) g.safe) same h.told.told.1) in
    let asked = asks request h.contents.state (task.Graph reading) (subst (AsksTask request h.contents.state) h.told.told.0 h.told.asked) in
    subst (λ t. Means request bytes line (cond g.safe 0 1) (start t)) (sym drawn.text_is) (record {
      reading = Plain;
      is_asked = ap Some (asked ∙ ap (λ r. about (ask.Graph r)) same);
      well = g.safe;
      drawn = (h.contents, p.1, drawn);
      status_is = refl;
    })
clashes-answer-means request bytes (Cut c) line l h =
    let p = plain-of request bytes h.contents h.told.to_do h.whole h.told.asked h.spelled in
    let reading = reading_in h.told.to_do in
    let same : reading ≡ Plain = reading-for-task request h.contents.state h.told.to_do h.told.asked ∙ p.0 in
    let cut : WritesRounds Plain (members h.contents) line c.decided =
    subst (λ t. WritesRounds Plain (members h.contents) t c.decided) (sym l)
    (subst (λ r. WritesRounds r (members h.contents) (string_bytes c.text) c.decided) same h.told.told.1) in
    let asked = asks request h.contents.state (task.Rounds reading) (subst (AsksTask request h.contents.state) h.told.told.0 h.told.asked) in
    subst (λ t. Means request bytes line (cond c.decided 0 1) (start t)) (sym cut.text_is) (inl (record {
      reading = Plain;
      is_asked = ap Some (asked ∙ ap (λ r. about (ask.Rounds r)) same);
      well = c.decided;
      cut = (h.contents, p.1, cut);
      status_is = refl;
    }))

-- of a run,
run-means : (request : Request) (bytes : List ℕ) (a : RunAnswer) (line : List ℕ) → line ≡ runs.text_of a → IsTrueOf request bytes (answer.Run a)
    → Means request bytes line (runs.status_of a) (start line)
run-means request bytes (Ran r) line l h =
    let p = plain-of request bytes h.contents h.told.to_do h.whole h.told.asked h.spelled in
    safe-means request bytes line (run_status r.finished) h.contents h.told.to_do (string_bytes r.lines ++ state_text r.state) l p.0 p.1 h.told.asked h.told.told.safe
    (ran-below h.told.to_do (members h.contents) r h.told.told)
run-means request bytes (RanByRounds r) line l h =
    let t = h.told.told in
    let asked = asks request h.contents.state (task.RunByRounds t.workers t.state) (subst (AsksTask request h.contents.state) t.task_is h.told.asked) in
    subst (λ ls. Means request bytes line (run_status r.finished) (start ls)) (sym l) (inr (inr (record {
      workers = t.workers;
      is_asked = ap Some asked.0;
      contents = h.contents;
      spelled = spelled-for request (about (ask.RunByRounds t.workers)) bytes h.contents asked.0 h.spelled;
      state = t.state;
      state_is = asked.1;
      run = r;
      was_run = t.run;
      text_is = l;
      status_is = refl;
    })))
run-means request bytes (RanInOrder r) line l h =
    subst (λ t. Means request bytes line (run_status r.finished) (start t)) (sym l)
    (in_order-shown request bytes line h.contents h.told.to_do r l h.spelled h.told.asked h.told.told)
run-means request bytes (NotRunInOrder f) line l h =
    subst (λ t. Means request bytes line 3 (start t)) (sym l)
    (in_order-unrun request bytes line h.contents h.told.to_do f l h.spelled h.told.asked h.told.told)
run-means request bytes (NotRun f) line l h =
    let p = plain-of request bytes h.contents h.told.to_do h.whole h.told.asked h.spelled in
    safe-means request bytes line 3 h.contents h.told.to_do (error_line f) l p.0 p.1 h.told.asked h.told.told.safe
    (error-below h.told.to_do (members h.contents) f h.told.told)

-- of that of the answer which archive is shared,
archive-means : (request : Request) (bytes : List ℕ) (text : String Global) (refusal : Refusal) (line : List ℕ) → line ≡ string_bytes text → IsTrueOf request bytes (answer.SameArchive text refusal)
    → Means request bytes line 1 (start line)
archive-means request bytes text refusal line l h =
    let c = h.contents in
    let p = plain-of request bytes c h.told.to_do h.whole h.told.asked h.spelled in
    let same = reading-for-task request c.state h.told.to_do h.told.asked ∙ p.0 in
    let shared = subst (λ reading. SharesArchive reading (members c) (string_bytes text)) same h.told.told.1 in
    let none : [] ≡ shared.numbers ∷ shared.others = shared.first in
    cc none

-- of a plan,
plan-means : (request : Request) (bytes : List ℕ) (a : PlanAnswer) (line : List ℕ) → line ≡ plans.text_of a → PlanHolds request bytes a
    → Means request bytes line (plans.status_of a) (start line)
plan-means request bytes (Made p) line l h =
    let held : IsPlan bytes line p.is_whole = subst (λ t. IsPlan bytes t p.is_whole) (sym l) h.1 in
    subst (λ t. Means request bytes line (cond p.is_whole 0 1) (start t)) (sym held.text_is) (record {
      is_asked = ap Some h.0;
      well = p.is_whole;
      plan = held;
      in_unison = plan-in_unison bytes line p.is_whole held;
      kept = plan-keeps bytes line p.is_whole held;
      placed = plan-places bytes line p.is_whole held;
      status_is = refl;
    })
plan-means request bytes (planned.Cut c) line l h =
    let held : CutsAlone bytes line c.decided = subst (λ t. CutsAlone bytes t c.decided) (sym l) h.1 in
    subst (λ t. Means request bytes line (cond c.decided 0 1) (start t)) (sym held.text_is) (inr (inl (record {
      is_asked = ap Some h.0;
      well = c.decided;
      cut = held;
      safe = rounds-alone-safe bytes line c.decided held;
      once = each-once (counted_bundle bytes) held.own held.takes;
      status_is = refl;
    })))
plan-means request bytes (planned.Refused text refusal) line l h =
    let u = h.1 in
    subst (λ t. Means request bytes line 1 (start t)) (sym (l ∙ u.line_is))
    (unplanned-means request bytes line _ u.reason (unplannable-no_numbers request u.own u.reason u.refused))
plan-means request bytes (BadRules f) line l h = subst (λ t. Means request bytes line 2 (start t)) (sym l) tt

-- and of the start of the text of every answer.
text-means : (request : Request) (bytes : List ℕ) (r : Report) (line : List ℕ) → is_mend request ≡ false → line ≡ text_of r → Holds request bytes r
    → Means request bytes line (status_of r) (start line)
text-means request bytes (answer.Reach a) line o l h = reach-means request bytes a line l h
text-means request bytes (answer.Verdict v) line o l h = verdict-means request bytes v line l h
text-means request bytes (answer.Clashes a) line o l h = clashes-answer-means request bytes a line l h
text-means request bytes (answer.Run a) line o l h = run-means request bytes a line l h
text-means request bytes (answer.Refused text refusal) line o l h =
    subst (λ t. Means request bytes line 1 (start t)) (sym (l ∙ h.told.told.1))
    (let p = plain-of request bytes h.contents h.told.to_do h.whole h.told.asked h.spelled in
    refusal-means request bytes line 1 h.contents h.told.to_do h.told.reason p.0 p.1 h.told.asked h.told.refused)
text-means request bytes (answer.SameArchive text refusal) line o l h = archive-means request bytes text refusal line l h
text-means request bytes (answer.Imported text) line o l h =
    subst (λ t. Means request bytes line 0 t) (sym (ap start l ∙ bundle-start text.items _ h.told.written)) tt
text-means request bytes (answer.Planned a) line o l h = plan-means request bytes a line l h
text-means request bytes (answer.InUnison a) line o l h = unison-means request bytes a line l h
text-means request bytes (answer.Mended m) line o l h = absurd (false≢true (sym o ∙ ap is_mend h.asked))
text-means request bytes _ line o l h = subst (λ t. Means request bytes line 2 (start t)) (sym l) tt

-- Of a text whose start is known.
means : (request : Request) (bytes : List ℕ) (r : Report) (line : List ℕ) (x : Start) → is_mend request ≡ false → line ≡ text_of r → start line ≡ x → Holds request bytes r
    → Means request bytes line (status_of r) x
means request bytes r line x o l e h = subst (Means request bytes line (status_of r)) e (text-means request bytes r line o l h)

-- Only the text of a safe set begins with `safe`,
pub only_safe : (request : Request) (bytes : List ℕ) (r : Report) (line s : List ℕ) (failed : Bool) (status : ℕ) → is_mend request ≡ false → line ≡ text_of r
    → IsWholeUnlessFailed line (status_of r) failed (codes "safe\n" ++ s) status → Holds request bytes r → TellsSafe (Some request) bytes s failed status
only_safe request bytes r line s failed status other l wrote h =
    let front = begins-taken (codes "safe\n") line s wrote.written (sym wrote.text_is) in
    let means_safe : Means request bytes line (status_of r) SafeStart = means request bytes r line SafeStart other l (ap start front.whole) h in
    let below : List ℕ = means_safe.0 in
    let rest : front.rest ≡ below = append_cancel_left (codes "safe\n") front.rest below (sym front.whole ∙ means_safe.1) in
    record {
      full = below;
      full_status = status_of r;
      is_so = means_safe.2;
      told = record {
        written = front.written;
        text_is = sym front.front ∙ ap (take front.written) rest;
        whole = λ f. append_cancel_left (codes "safe\n") s below (wrote.whole f ∙ means_safe.1);
        status_is = wrote.status_is;
      };
    }

-- only those of rounds and that of a run by rounds with `rou`,
pub only_rounds : (request : Request) (bytes : List ℕ) (r : Report) (line s : List ℕ) (failed : Bool) (status : ℕ) → is_mend request ≡ false → line ≡ text_of r
    → IsWholeUnlessFailed line (status_of r) failed (codes "rounds " ++ s) status → Holds request bytes r
    → SpellsRounds (Some request) bytes (codes "rounds " ++ s) failed status
    ⊎ (SpellsRoundsAlone (Some request) bytes (codes "rounds " ++ s) failed status ⊎ SpellsRoundsRun (Some request) bytes (codes "rounds " ++ s) failed status)
only_rounds request bytes r line s failed status other l wrote h =
    go (means request bytes r line RoundsStart other l (ap start (begins-taken (codes "rounds ") line s wrote.written (sym wrote.text_is)).whole) h)
  where
    go : ShowsRounds (Some request) bytes line (status_of r) ⊎ (ShowsRoundsAlone (Some request) bytes line (status_of r) ⊎ ShowsRoundsRun (Some request) bytes line (status_of r))
        → SpellsRounds (Some request) bytes (codes "rounds " ++ s) failed status
        ⊎ (SpellsRoundsAlone (Some request) bytes (codes "rounds " ++ s) failed status ⊎ SpellsRoundsRun (Some request) bytes (codes "rounds " ++ s) failed status)
    go (inl is) = inl (record { full = line; full_status = status_of r; is_so = is; told = wrote })
    go (inr (inl is)) = inr (inl (record { full = line; full_status = status_of r; is_so = is; told = wrote }))
    go (inr (inr is)) = inr (inr (record { full = line; full_status = status_of r; is_so = is; told = wrote }))

-- only that of a graph with a g,
pub only_graph : (request : Request) (bytes : List ℕ) (r : Report) (line s : List ℕ) (failed : Bool) (status : ℕ) → is_mend request ≡ false → line ≡ text_of r
    → IsWholeUnlessFailed line (status_of r) failed (codes "graph clashes {" ++ s) status → Holds request bytes r
    → SpellsGraph (Some request) bytes (codes "graph clashes {" ++ s) failed status
only_graph request bytes r line s failed status other l wrote h =
    let front = begins-taken (codes "graph clashes {") line s wrote.written (sym wrote.text_is) in
    record { full = line; full_status = status_of r; is_so = means request bytes r line GraphStart other l (ap start front.whole) h; told = wrote }

-- only that of a plan with a p,
pub only_plan : (request : Request) (bytes : List ℕ) (r : Report) (line s : List ℕ) (failed : Bool) (status : ℕ) → is_mend request ≡ false → line ≡ text_of r
    → IsWholeUnlessFailed line (status_of r) failed (codes "plan 1\n" ++ s) status → Holds request bytes r
    → SpellsPlan (Some request) bytes (codes "plan 1\n" ++ s) failed status
only_plan request bytes r line s failed status other l wrote h =
    let front = begins-taken (codes "plan 1\n") line s wrote.written (sym wrote.text_is) in
    record { full = line; full_status = status_of r; is_so = means request bytes r line PlanStart other l (ap start front.whole) h; told = wrote }

-- only that of a run in order with an i,
pub only_in_order : (request : Request) (bytes : List ℕ) (r : Report) (line s : List ℕ) (failed : Bool) (status : ℕ) → is_mend request ≡ false → line ≡ text_of r
    → IsWholeUnlessFailed line (status_of r) failed (codes "in order\n" ++ s) status → Holds request bytes r
    → SpellsRunInOrder (Some request) bytes (codes "in order\n" ++ s) failed status
only_in_order request bytes r line s failed status other l wrote h =
    let front = begins-taken (codes "in order\n") line s wrote.written (sym wrote.text_is) in
    record { full = line; full_status = status_of r; is_so = means request bytes r line OrderStart other l (ap start front.whole) h; told = wrote }

-- only that of an archive that is shared with `sam`,
pub only_archive : (request : Request) (bytes : List ℕ) (r : Report) (line s : List ℕ) (failed : Bool) (status : ℕ) → is_mend request ≡ false → line ≡ text_of r
    → IsWholeUnlessFailed line (status_of r) failed (codes "same archive: " ++ s) status → Holds request bytes r
    → SpellsArchive (Some request) bytes (codes "same archive: " ++ s) failed status
only_archive request bytes r line s failed status other l wrote h =
    let front = begins-taken (codes "same archive: ") line s wrote.written (sym wrote.text_is) in
    record { full = line; full_status = status_of r; is_so = (means request bytes r line ArchiveStart other l (ap start front.whole) h).0; told = wrote }

-- that of what clashes as a line of it, if the words ask for it,
pub only_clashes : (reading : Reading) (request : Request) (bytes : List ℕ) (r : Report) (line text : List ℕ) (failed : Bool) (status : ℕ) → request ≡ about (ask.Clashes reading) → line ≡ text_of r
    → IsWholeUnlessFailed line (status_of r) failed text status → Holds request bytes r → BeginsAsClash text → SpellsClashes reading bytes text failed status
only_clashes reading request bytes r line text failed status is l wrote h b =
    record { full = line; full_status = status_of r; is_so = go b.1; told = wrote }
  where
    rest : List ℕ
    rest = b.0

    other : is_mend request ≡ false
    other = ap is_mend is

    go : (text ≡ codes "overlap: " ++ rest) ⊎ (text ≡ codes "breach: " ++ rest) ⊎ (text ≡ codes "too large: " ++ rest) ⊎ (text ≡ codes "same archive: " ++ rest) ⊎ (text ≡ codes "nested roots: " ++ rest) → ShowsClashes reading bytes line (status_of r)
    go (inl o) = (means request bytes r line OverlapStart other l (ap start (begins-taken (codes "overlap: ") line rest wrote.written (sym wrote.text_is ∙ o)).whole) h).1 reading is
    go (inr (inl o)) = (means request bytes r line BreachStart other l (ap start (begins-taken (codes "breach: ") line rest wrote.written (sym wrote.text_is ∙ o)).whole) h).1 reading is
    go (inr (inr (inl o))) = means request bytes r line TooLargeStart other l (ap start (begins-taken (codes "too large: ") line rest wrote.written (sym wrote.text_is ∙ o)).whole) h reading is
    go (inr (inr (inr (inl o)))) = (means request bytes r line ArchiveStart other l (ap start (begins-taken (codes "same archive: ") line rest wrote.written (sym wrote.text_is ∙ o)).whole) h).1 reading is
    go (inr (inr (inr (inr o)))) = means request bytes r line NestedStart other l (ap start (begins-taken (codes "nested roots: ") line rest wrote.written (sym wrote.text_is ∙ o)).whole) h reading is

-- only that of a verified one with a v,
pub only_verified : (request : Request) (bytes : List ℕ) (r : Report) (line : List ℕ) (w : ℕ) (s : List ℕ) → is_mend request ≡ false → line ≡ text_of r → take w line ≡ 118 ∷ s → Holds request bytes r → SpellsVerified (Some request) bytes
only_verified request bytes r line w s other l e h =
    means request bytes r line VerifiedStart other l (ap start (begins-taken (118 ∷ []) line s w e).whole) h

-- only that of a reached path with `rea`,
pub only_reached : (request : Request) (bytes : List ℕ) (r : Report) (line : List ℕ) (w : ℕ) (s : List ℕ) → is_mend request ≡ false → line ≡ text_of r → take w line ≡ 114 ∷ 101 ∷ 97 ∷ s → Holds request bytes r → IsTrueOf request bytes (answer.Reach Reached)
only_reached request bytes r line w s other l e h =
    means request bytes r line ReachedStart other l (ap start (begins-taken (114 ∷ 101 ∷ 97 ∷ []) line s w e).whole) h

-- only that of a path that isn't with `not`,
pub only_not_reached : (request : Request) (bytes : List ℕ) (r : Report) (line : List ℕ) (w : ℕ) (s : List ℕ) → is_mend request ≡ false → line ≡ text_of r → take w line ≡ 110 ∷ 111 ∷ 116 ∷ s → Holds request bytes r → IsTrueOf request bytes (answer.Reach NotReached)
only_not_reached request bytes r line w s other l e h =
    means request bytes r line NotReachedStart other l (ap start (begins-taken (110 ∷ 111 ∷ 116 ∷ []) line s w e).whole) h

-- only that of an overlap with an o,
pub only_overlaps : OverlapsShown → (request : Request) (bytes : List ℕ) (r : Report) (line : List ℕ) (w : ℕ) (s : List ℕ) → is_mend request ≡ false → line ≡ text_of r → take w line ≡ 111 ∷ s → Holds request bytes r → SpellsUnsafe (Some request) bytes
only_overlaps shown request bytes r line w s other l e h =
    (means request bytes r line OverlapStart other l (ap start (begins-taken (111 ∷ []) line s w e).whole) h).0 shown

-- and only that of a breach with a b.
pub only_breaches : BreachesShown → (request : Request) (bytes : List ℕ) (r : Report) (line : List ℕ) (w : ℕ) (s : List ℕ) → is_mend request ≡ false → line ≡ text_of r → take w line ≡ 98 ∷ s → Holds request bytes r → SpellsUnsafe (Some request) bytes
only_breaches shown request bytes r line w s other l e h =
    (means request bytes r line BreachStart other l (ap start (begins-taken (98 ∷ []) line s w e).whole) h).0 shown
