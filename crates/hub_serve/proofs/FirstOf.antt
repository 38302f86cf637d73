-- What a whole answer says of its first line.
use Rattle.std.proofs.Common.{◌≡◌, ◌⊎◌, inl, inr, ℕ, Bool, true, false, refl, sym, ap, ◌∙◌, subst, List, Option, Some, None}
use Rattle.std.specs.Prelude.{codes}
use Rattle.std.proofs.lemmas.Option.{same_Some}
use Rattle.hub_cert.specs.Set.{Members}
use Rattle.hub_state.specs.State.{State}
use Rattle.hub_cli.specs.declared.words.Question.{Question}
use Rattle.hub_cli.specs.declared.words.Question.TheVariants as ask
use Rattle.hub_cli.specs.declared.words.Reading.{Reading}
use Rattle.hub_cli.specs.Words.{Request, asked_of}
use Rattle.hub_cli.specs.Words as question
use Rattle.hub_serve.specs.declared.task.Task.{Task}
use Rattle.hub_serve.specs.declared.task.Task.TheVariants as task
use Rattle.hub_serve.specs.Runs.{IsBelow}
use Rattle.hub_serve.specs.Shown.{FollowsSafe, SpellsRounds, SpellsRoundsAlone, SpellsRoundsRun, SpellsSafe, SpellsSafeAs, TellsSafe, may_be_safe}
use Rattle.hub_serve.specs.Task.{task_of}

-- Nothing follows `safe` for a question that may not be answered so.
may-be : (q : Question) (state : Option State) (t : Task) (M : Members) (status : ℕ) (below : List ℕ) → task_of q state ≡ Some t → IsBelow t M status below → may_be_safe q ≡ true
may-be ask.CheckWithState state t M status below is b = refl
may-be (ask.Run n) state t M status below is b = refl
may-be (ask.Check reading) state t M status below is b = refl
may-be (ask.Clashes reading) state t M status below is b = refl
may-be (ask.RunByRounds n) None t M status below is b = cc
may-be (ask.RunByRounds n) (Some S) t M status below is b =
    absurd (subst (λ u. IsBelow u M status below) (sym (same_Some (task.RunByRounds n S) t is)) b)
may-be (ask.RunInOrder n) None t M status below is b = cc
may-be (ask.RunInOrder n) (Some S) t M status below is b =
    absurd (subst (λ u. IsBelow u M status below) (sym (same_Some (task.RunInOrder n S) t is)) b)
may-be ask.Certify state t M status below is b = absurd (subst (λ u. IsBelow u M status below) (sym (same_Some task.Certify t is)) b)
may-be ask.Verify state t M status below is b = absurd (subst (λ u. IsBelow u M status below) (sym (same_Some task.Verify t is)) b)
may-be (ask.Graph reading) state t M status below is b = absurd (subst (λ u. IsBelow u M status below) (sym (same_Some (task.Graph reading) t is)) b)
may-be (ask.Rounds reading) state t M status below is b = absurd (subst (λ u. IsBelow u M status below) (sym (same_Some (task.Rounds reading) t is)) b)

-- Each way in which `safe` may be answered.
safe-so : (asked : Option Request) (bytes text : List ℕ) (status : ℕ) → FollowsSafe asked bytes text status → SpellsSafe asked bytes
safe-so asked bytes text status (inl f) = record {
  of_set = f.of_set;
  is_asked = f.is_asked;
  may_be = may-be f.of_set f.contents.state f.to_do _ _ _ f.to_do_is f.below;
  safe = subst (λ r. SpellsSafeAs r bytes) (sym f.plain) (f.contents, f.spelled, f.safe);
}
safe-so asked bytes text status (inr f) = record {
  of_set = f.of_set;
  is_asked = f.is_asked;
  may_be = f.may_be;
  safe = subst (λ r. SpellsSafeAs r bytes) (sym f.in_unison) f.safe;
}

pub safe-in : (asked : Option Request) (bytes text : List ℕ) (failed : Bool) (status : ℕ) → TellsSafe asked bytes text failed status → SpellsSafe asked bytes
safe-in asked bytes text failed status told = safe-so asked bytes told.full told.full_status told.is_so

-- Who asks for rounds doesn't ask for those beside which profiles run alone, nor for a run by rounds.
rounds-no-alone : (reading : Reading) → Some (question.about (ask.Rounds reading)) ≡ Some question.rounds_alone → ⊥
rounds-no-alone reading e = cc

rounds-no-run : (reading : Reading) (n : ℕ) → Some (question.about (ask.Rounds reading)) ≡ Some (question.about (ask.RunByRounds n)) → ⊥
rounds-no-run reading n e = cc

alone-no-run : (n : ℕ) → Some question.rounds_alone ≡ Some (question.about (ask.RunByRounds n)) → ⊥
alone-no-run n e = cc

abbrev pub OfRounds : Option Request → List ℕ → List ℕ → Bool → ℕ → Type 0
OfRounds asked bytes text failed status =
    SpellsRounds asked bytes text failed status
    ⊎ (SpellsRoundsAlone asked bytes text failed status ⊎ SpellsRoundsRun asked bytes text failed status)

pub rounds-in : (asked : Option Request) (reading : Reading) (bytes text : List ℕ) (failed : Bool) (status : ℕ) → asked ≡ Some (question.about (ask.Rounds reading))
    → OfRounds asked bytes text failed status → SpellsRounds asked bytes text failed status
rounds-in asked reading bytes text failed status is (inl cut) = cut
rounds-in asked reading bytes text failed status is (inr (inl alone)) = absurd (rounds-no-alone reading (sym is ∙ alone.is_so.is_asked))
rounds-in asked reading bytes text failed status is (inr (inr run)) = absurd (rounds-no-run reading run.is_so.workers (sym is ∙ run.is_so.is_asked))

-- And the other way round.
pub rounds-alone-in : (asked : Option Request) (bytes text : List ℕ) (failed : Bool) (status : ℕ) → asked ≡ Some question.rounds_alone
    → OfRounds asked bytes text failed status → SpellsRoundsAlone asked bytes text failed status
rounds-alone-in asked bytes text failed status is (inl cut) = absurd (rounds-no-alone cut.is_so.reading (sym cut.is_so.is_asked ∙ is))
rounds-alone-in asked bytes text failed status is (inr (inl alone)) = alone
rounds-alone-in asked bytes text failed status is (inr (inr run)) = absurd (alone-no-run run.is_so.workers (sym is ∙ run.is_so.is_asked))
