-- What is answered where a faulty profile keeps no other from being read.
use Rattle.std.proofs.Common.{◌≡◌, ◌∙◌, inl, inr, List, ℕ, true, Some, Result, Ok, Err, refl, sym, ap, subst}
use Rattle.std.specs.Prelude.{IfOk, string_bytes}
use Rattle.hub_apart.specs.ApartLines.{set_of, set_of_one, set_of_two}
use Rattle.hub_apart.specs.NestedLines.{IsRefusedBeside, IsRefusedNear, IsRefusedUnder, together, under}
use Rattle.hub_apart.specs.declared.searched.Apart.{Apart}
use Rattle.hub_cert.specs.Set.{Members}
use Rattle.hub_cert.specs.declared.fault.CheckFault.{CheckFault}
use Rattle.hub_cli.specs.Words.{Request, rounds_alone}
use Rattle.hub_preferences.specs.Counted.{counted_bundle}
use Rattle.hub_profile.specs.Parts.{Parts}
use Rattle.hub_profile.specs.declared.rule.Rule.{Rule}
use Rattle.hub_report.specs.Plan.{is_whole, plan_text, text_in}
use Rattle.hub_report.specs.Report.{has_no_numbers}
use Rattle.hub_report.specs.declared.faulty_input.FaultyInput.TheVariants.{BadBundle}
use Rattle.hub_report.specs.declared.plan.Plan.{Plan}
use Rattle.hub_report.specs.declared.plan.Roster.{Roster}
use Rattle.hub_report.specs.declared.plan_answer.PlanAnswer.{PlanAnswer}
use Rattle.hub_report.specs.declared.plan_answer.PlanAnswer.TheVariants.{Made, Cut, Refused, BadRules}
use Rattle.hub_report.specs.declared.report.Report.{Report}
use Rattle.hub_report.specs.declared.report.Report.TheVariants as answer
use Rattle.hub_unison.specs.Shared.{shared_pairs}
use Rattle.hub_apart.specs.UnisonLines.{IsRefusedInUnison, beside}
use Rattle.hub_serve.proofs.Told.{refused-no_numbers}
use Rattle.hub_serve.specs.Plans.{AreFoundOf, HaveOneName, IsUnplannable, IsWrittenOf, PlanHolds, Takes, plan_request, reads_around_faults}
use Rattle.hub_serve.specs.Told.{Holds}
use Rattle.hub_serve.specs.forms.Planning.{IsUntaken, OfMade, OfTaken, TellsPlan, TellsUnplanned}
use Rattle.hub_serve.specs.declared.plan_question.PlanQuestion.{PlanQuestion}
use Rattle.hub_serve.specs.declared.plan_question.PlanQuestion.TheVariants as question
use Rattle.hub_serve.specs.declared.taken.Taken.{Taken}

-- By these words a faulty profile keeps no other from being read.
pub reads-around : (q : PlanQuestion) → reads_around_faults (plan_request q) ≡ true
reads-around question.Plan = refl
reads-around question.Rounds = refl

-- That is so of the words of each such answer.
pub around-faults : (request : Request) (bytes : List ℕ) (a : PlanAnswer) → PlanHolds request bytes a → reads_around_faults request ≡ true
around-faults request bytes (Made p) h = ap reads_around_faults h.0
around-faults request bytes (Cut c) h = ap reads_around_faults h.0
around-faults request bytes (Refused line refusal) h = h.0
around-faults request bytes (BadRules f) h = h.0

-- The plan of the lines that were found is the answer;
pub plan-told : (t : Taken) (archives : List (ℕ × ℕ)) (found : Apart) (r : Report) → archives ≡ shared_pairs t.profiles → AreFoundOf t.profiles t.rules found
    → TellsPlan t.roster archives found r → OfTaken question.Plan t r
plan-told t archives found (answer.Planned (Made p)) shared h w = λ bytes takes. (
  refl,
  record {
    own = t;
    takes = takes;
    lines = found.lines;
    all = h.all;
    pairs = h.pairs;
    alone = h.alone;
    text_is = w.text
        ∙ (ap (λ Ps. plan_text t.roster (set_of Ps found.rules) found.lines archives) h.profiles
        ∙ (ap (λ Rs. plan_text t.roster (set_of (beside t.rules t.profiles) Rs) found.lines archives) h.rules
        ∙ ap (plan_text t.roster (set_of (beside t.rules t.profiles) t.rules) found.lines) shared));
    whole_is = w.whole ∙ ap (λ Rs. is_whole t.roster Rs found.lines) h.rules;
  },
)
plan-told t archives found answer.OutOfMemory shared h w = λ bytes takes. tt
plan-told t archives found _ shared h w = absurd w

-- or why there is none.
pub unplanned-told : (q : PlanQuestion) (t : Taken) (e : CheckFault) (r : Report) → IsUnplannable (plan_request q) t e
    → TellsUnplanned (set_of (beside t.rules t.profiles) t.rules) e r → OfTaken q t r
unplanned-told q t e (answer.Planned (Refused line refusal)) h w = λ bytes takes. (
  reads-around q,
  record {
    own = t;
    takes = takes;
    reason = e;
    refused = h;
    line_is = w;
  },
)
unplanned-told q t e answer.OutOfMemory h w = λ bytes takes. tt
unplanned-told q t e _ h w = absurd w

-- The same of profiles and rules.
pub made-told : (roster : Roster) (Ps : List Parts) (Rs : List Rule) (archives : List (ℕ × ℕ)) (found : Apart) (r : Report) → AreFoundOf Ps Rs found
    → TellsPlan roster archives found r → OfMade question.Plan roster Ps Rs archives r
made-told roster Ps Rs archives found r h w = λ t same_roster same_profiles same_rules shared.
    plan-told t archives found r (shared ∙ ap shared_pairs (sym same_profiles))
    (subst (λ Qs. AreFoundOf Qs t.rules found) (sym same_profiles) (subst (λ Ss. AreFoundOf Ps Ss found) (sym same_rules) h))
    (subst (λ x. TellsPlan x archives found r) (sym same_roster) w)

pub unmade-told : (q : PlanQuestion) (roster : Roster) (Ps : List Parts) (Rs : List Rule) (archives : List (ℕ × ℕ)) (e : CheckFault) (r : Report) → IsRefusedInUnison Ps Rs e
    → ((S : Members) → TellsUnplanned S e r) → OfMade q roster Ps Rs archives r
unmade-told q roster Ps Rs archives e r h w = λ t same_roster same_profiles same_rules shared.
    unplanned-told q t e r
    (inr (subst (λ Qs. IsRefusedInUnison Qs t.rules e) (sym same_profiles) (subst (λ Ss. IsRefusedInUnison Ps Ss e) (sym same_rules) h)))
    (w (set_of (beside t.rules t.profiles) t.rules))

-- An answer to one question is the answer to what is asked, if that is the same.
pub asked-made : (asked q : PlanQuestion) (roster : Roster) (Ps : List Parts) (Rs : List Rule) (archives : List (ℕ × ℕ)) (r : Report) → asked ≡ q → OfMade q roster Ps Rs archives r → OfMade asked roster Ps Rs archives r
asked-made asked q roster Ps Rs archives r is h = subst (λ p. OfMade p roster Ps Rs archives r) (sym is) h

-- What is written is the plan of what was found.
pub written-of : {E : Type 0} (r : Roster) (found : Apart) (result : Result Plan E) (Ps : List Parts) (Rs : List Rule) (es : List CheckFault) (archives : List (ℕ × ℕ))
    → Ps ≡ found.profiles → Rs ≡ found.rules → es ≡ found.lines
    → IfOk result (λ p. string_bytes p.text ≡ text_in r Ps Rs es archives) → IfOk result (λ p. p.is_whole ≡ is_whole r Rs es) → IfOk result (IsWrittenOf r archives found)
written-of r found (Ok p) Ps Rs es archives ps rs ls text whole = record {
  text = text
      ∙ (ap (λ xs. text_in r xs Rs es archives) ps
      ∙ (ap (λ xs. text_in r found.profiles xs es archives) rs ∙ ap (λ xs. text_in r found.profiles found.rules xs archives) ls));
  whole = whole ∙ (ap (λ xs. is_whole r xs es) rs ∙ ap (is_whole r found.rules) ls);
}
written-of r found (Err e) Ps Rs es archives ps rs ls text whole = tt

-- Such a reason has no numbers, be it of two profiles, or of one and rules.
near-no_numbers : (P Q : Parts) (e : CheckFault) → IsRefusedNear P Q e → has_no_numbers e ≡ true
near-no_numbers P Q e (inl (inl h)) = ap has_no_numbers h
near-no_numbers P Q e (inl (inr h)) = refused-no_numbers (together h.2) e h.4
near-no_numbers P Q e (inr h) = refused-no_numbers (set_of_two P Q) e h.1

under-no_numbers : (P : Parts) (R : Rule) (e : CheckFault) → IsRefusedUnder P R e → has_no_numbers e ≡ true
under-no_numbers P R e (inl h) = ap has_no_numbers h
under-no_numbers P R e (inr h) = refused-no_numbers (under h.1) e h.3

beside-no_numbers : (P : Parts) (Rs : List Rule) (e : CheckFault) → IsRefusedBeside P Rs e → has_no_numbers e ≡ true
beside-no_numbers P Rs e (inl (inl h)) = ap has_no_numbers h
beside-no_numbers P Rs e (inl (inr h)) = under-no_numbers P h.1 e h.3
beside-no_numbers P Rs e (inr h) = refused-no_numbers (set_of_one P Rs) e h.1

pub unplanned-no_numbers : (Ps : List Parts) (Rs : List Rule) (e : CheckFault) → IsRefusedInUnison Ps Rs e → has_no_numbers e ≡ true
unplanned-no_numbers Ps Rs e (inl (inl h)) = ap has_no_numbers h
unplanned-no_numbers Ps Rs e (inl (inr h)) = near-no_numbers h.2 h.3 e h.7
unplanned-no_numbers Ps Rs e (inr (inl h)) = ap has_no_numbers h
unplanned-no_numbers Ps Rs e (inr (inr h)) = beside-no_numbers h.1 Rs e h.3

one-name-no_numbers : (request : Request) (r : Roster) (e : CheckFault) → HaveOneName request r e → has_no_numbers e ≡ true
one-name-no_numbers rounds_alone r e h = ap has_no_numbers h.2
one-name-no_numbers _ r e h = absurd h

pub unplannable-no_numbers : (request : Request) (t : Taken) (e : CheckFault) → IsUnplannable request t e → has_no_numbers e ≡ true
unplannable-no_numbers request t e (inl h) = one-name-no_numbers request t.roster e h
unplannable-no_numbers request t e (inr h) = unplanned-no_numbers t.profiles t.rules e h

-- Where nothing is taken, that is the answer.
pub untaken-holds : (q : PlanQuestion) (bytes : List ℕ) (r : Report) → IsUntaken (counted_bundle bytes) r → Holds (plan_request q) bytes r
untaken-holds question.Plan bytes (answer.Faulty (BadBundle f)) h = h
untaken-holds question.Rounds bytes (answer.Faulty (BadBundle f)) h = h
untaken-holds q bytes (answer.Planned (BadRules f)) h = (reads-around q, h)
untaken-holds q bytes answer.OutOfMemory h = tt
untaken-holds q bytes _ h = absurd h

-- What holds of the lines that count holds of an input of which these count.
pub taken-as : (bytes counted : List ℕ) (t : Taken) → counted ≡ counted_bundle bytes → Takes counted t → Takes (counted_bundle bytes) t
taken-as bytes counted t is h = subst (λ bs. Takes bs t) is h

pub untaken-as : (q : PlanQuestion) (bytes counted : List ℕ) (r : Report) → counted ≡ counted_bundle bytes → IsUntaken counted r → Holds (plan_request q) bytes r
untaken-as q bytes counted r is h = untaken-holds q bytes r (subst (λ bs. IsUntaken bs r) is h)
