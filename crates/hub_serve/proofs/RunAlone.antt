-- What is answered where rounds are asked for beside which profiles run alone.
use Rattle.std.proofs.Common.{◌≡◌, ◌∙◌, ◌++◌, ◌&&◌, inl, inr, List, ℕ, true, length, None, Some, Result, Ok, Err, refl, sym, ap, subst}
use Rattle.std.specs.Prelude.{IfOk}
use Rattle.std.proofs.lemmas.List.{length-map}
use Rattle.hub_apart.specs.ApartLines.{set_of, with_pairs}
use Rattle.hub_apart.specs.UnisonLines.{beside}
use Rattle.hub_apart.specs.declared.searched.Apart.{Apart}
use Rattle.hub_cert.specs.Set.{Members}
use Rattle.hub_cert.specs.declared.fault.CheckFault.{CheckFault}
use Rattle.hub_profile.specs.Parts.{Parts}
use Rattle.hub_profile.specs.declared.rule.Rule.{Rule}
use Rattle.hub_report.specs.Alone.{alone_lines, are_known}
use Rattle.hub_report.specs.Report.{has_no_numbers}
use Rattle.hub_report.specs.Rounds.{numbers_text}
use Rattle.hub_report.specs.declared.plan.Roster.{Roster}
use Rattle.hub_report.specs.declared.plan_answer.PlanAnswer.TheVariants.{Cut}
use Rattle.hub_report.specs.declared.report.Report.{Report}
use Rattle.hub_report.specs.declared.report.Report.TheVariants as answer
use Rattle.hub_rounds.specs.Numbered.{AreRoundsOfLines}
use Rattle.hub_unison.specs.ReadingOf.{reading_of}
use Rattle.hub_unison.specs.Shared.{shared_pairs}
use Rattle.hub_serve.specs.InUnison.{are_decided}
use Rattle.hub_serve.specs.Plans.{twice}
use Rattle.hub_serve.specs.declared.plan_question.PlanQuestion.TheVariants as question
use Rattle.hub_serve.specs.declared.taken.Taken.{Taken}
use Rattle.hub_serve.specs.forms.Alone.{AreFoundBeside, IsRefusedBeside, TellsCut}
use Rattle.hub_serve.specs.forms.InUnison.{IsSearchedOf}
use Rattle.hub_serve.specs.forms.Planning.{OfMade, OfTaken, TellsUnplanned}
use Rattle.hub_serve.proofs.Planning.{unmade-told, unplanned-no_numbers, unplanned-told}

-- What is found if no two of all profiles have one name.
pub beside-found : {E : Type 0} (r : Roster) (Ps : List Parts) (Rs : List Rule) (a : Result Apart E) → twice r.names ≡ None → IfOk a (IsSearchedOf Ps Rs) → IfOk a (AreFoundBeside r Ps Rs)
beside-found r Ps Rs (Ok found) names h = record { names = names; searched = h }
beside-found r Ps Rs (Err e) names h = tt

-- The rounds by what was found are the answer;
cut-told : (t : Taken) (archives : List (ℕ × ℕ)) (found : Apart) (r : Report) → archives ≡ shared_pairs t.profiles → AreFoundBeside t.roster t.profiles t.rules found
    → TellsCut t.roster archives found r → OfTaken question.Rounds t r
cut-told t archives found (answer.Planned (Cut c)) shared h w = λ bytes takes.
    let many : length found.profiles ≡ length t.profiles =
    ap (λ (Ps : List Parts). length Ps) h.searched.profiles ∙ length-map t.profiles (reading_of t.rules) in
    let all : with_pairs archives found.lines ≡ with_pairs (shared_pairs t.profiles) found.lines =
    ap (λ pairs. with_pairs pairs found.lines) shared in (
      refl,
      record {
        own = t;
        takes = takes;
        names = h.names;
        lines = found.lines;
        found = h.searched.lines;
        rounds = w.rounds;
        cut = subst (λ (n : ℕ). AreRoundsOfLines n (with_pairs (shared_pairs t.profiles) found.lines) w.rounds) many
            (subst (λ es. AreRoundsOfLines (length found.profiles) es w.rounds) all w.cut);
        text_is = w.text_is
            ∙ (ap (λ Ps. numbers_text Ps w.rounds ++ alone_lines t.roster found.rules) h.searched.profiles
            ∙ ap (λ Rs. numbers_text (beside t.rules t.profiles) w.rounds ++ alone_lines t.roster Rs) h.searched.rules);
        decided_is = w.decided_is
            ∙ (ap (λ es. are_decided es w.rounds && are_known t.roster found.rules) all
            ∙ ap (λ Rs. are_decided (with_pairs (shared_pairs t.profiles) found.lines) w.rounds && are_known t.roster Rs) h.searched.rules);
      },
    )
cut-told t archives found answer.OutOfMemory shared h w = λ bytes takes. tt
cut-told t archives found _ shared h w = absurd w

-- so they are for all that is made of these;
pub cut-made : (roster : Roster) (Ps : List Parts) (Rs : List Rule) (archives : List (ℕ × ℕ)) (found : Apart) (r : Report) → AreFoundBeside roster Ps Rs found
    → TellsCut roster archives found r → OfMade question.Rounds roster Ps Rs archives r
cut-made roster Ps Rs archives found r h w = λ t same_roster same_profiles same_rules shared.
    cut-told t archives found r (shared ∙ ap shared_pairs (sym same_profiles))
    (subst (λ x. AreFoundBeside x t.profiles t.rules found) (sym same_roster)
    (subst (λ Qs. AreFoundBeside roster Qs t.rules found) (sym same_profiles) (subst (λ Ss. AreFoundBeside roster Ps Ss found) (sym same_rules) h)))
    (subst (λ x. TellsCut x archives found r) (sym same_roster) w)

-- or why there are none.
pub beside-no_numbers : (roster : Roster) (Ps : List Parts) (Rs : List Rule) (e : CheckFault) → IsRefusedBeside roster Ps Rs e → has_no_numbers e ≡ true
beside-no_numbers roster Ps Rs e (inl (inl h)) = ap has_no_numbers h
beside-no_numbers roster Ps Rs e (inl (inr h)) = ap has_no_numbers h.2
beside-no_numbers roster Ps Rs e (inr h) = unplanned-no_numbers Ps Rs e h

pub uncut-made : (roster : Roster) (Ps : List Parts) (Rs : List Rule) (archives : List (ℕ × ℕ)) (e : CheckFault) (r : Report) → IsRefusedBeside roster Ps Rs e
    → ((S : Members) → TellsUnplanned S e r) → OfMade question.Rounds roster Ps Rs archives r
uncut-made roster Ps Rs archives e r (inl (inl h)) w = unmade-told question.Rounds roster Ps Rs archives e r (inl (inl h)) w
uncut-made roster Ps Rs archives e r (inl (inr h)) w = λ t same_roster same_profiles same_rules shared.
    unplanned-told question.Rounds t e r (inl (h.0, ap (λ (x : Roster). twice x.names) same_roster ∙ h.1, h.2))
    (w (set_of (beside t.rules t.profiles) t.rules))
uncut-made roster Ps Rs archives e r (inr h) w = unmade-told question.Rounds roster Ps Rs archives e r h w
