-- What is told of a settlement, and of its refusals.
use Rattle.std.proofs.Common.{◌≡◌, List, [], ◌∷◌, Option, None, Result, Ok, Err, IfOk, refl, ap, sym, ◌∙◌, subst, arith}
use Rattle.std.specs.Prelude.{ℕ, All}
use Rattle.hub_path.specs.Path.{Path}
use Rattle.hub_profile.specs.Parts.{Parts}
use Rattle.hub_reach.specs.Safe.{Rule, IsSafe}
use Rattle.hub_state.specs.State.{State}
use Rattle.hub_job.specs.declared.outcome.Outcome.{Outcome}
use Rattle.hub_job.specs.declared.run_fault.RunFault.{RunFault}
use Rattle.hub_job.specs.declared.run_fault.RunFault.TheVariants.{Mismatch, Stranger}
use Rattle.hub_job.specs.JobValue.{JobValue}
use Rattle.hub_history.specs.Book.{BookValue}
use Rattle.hub_schedule.specs.Promise.{HasReplicas, Settles}
use Rattle.hub_schedule.specs.Refusals.{first_missing}
use Rattle.hub_schedule.specs.Safely.{OfSafeSets}
use Rattle.hub_schedule.specs.Settled.{AreProfiles, Histories}
use Rattle.hub_schedule.specs.laws.Missing.{have_replicas}
use Rattle.hub_schedule.specs.laws.Unchanged.{IsStateFor}
use Rattle.hub_runner.specs.Settling.{AreCompared, AreConsistent, IsFirstMismatch, IsLowestInconsistent, Agrees, IsUnsettled, history_at, history_shown, log_shown, compared_places}

-- What is told of a comparison, where Qs are the profiles as the program reads them.
module _ (S : State) {Qs Ps : List Parts} (value : Qs ≡ Ps) (books : List BookValue) (jobs : List JobValue) (none_missing : None ≡ first_missing S Qs) where
  there : first_missing S Ps ≡ None
  there = sym (none_missing ∙ ap (first_missing S) value)

  pub stranger_is : (j : ℕ) → IsLowestInconsistent S Qs jobs j → IsUnsettled S Ps books jobs (Stranger j)
  stranger_is j inconsistent = (there, subst (λ (Rs : List Parts). IsLowestInconsistent S Rs jobs j) value inconsistent)

  module _ (none_odd : AreConsistent S Qs jobs) where
    due : AreConsistent S Ps jobs
    due = subst (λ (Rs : List Parts). AreConsistent S Rs jobs) value none_odd

    pub mismatch_is : (f : RunFault) (r : Path) (j : Option ℕ) → IsFirstMismatch S Ps books jobs (compared_places Ps) (r, j) → f ≡ Mismatch r j (history_shown books r j) (log_shown Qs jobs r j) → IsUnsettled S Ps books jobs f
    mismatch_is f r j first e =
        let shown : f ≡ Mismatch r j (history_shown books r j) (log_shown Ps jobs r j) = e ∙ ap (λ (Rs : List Parts). Mismatch r j (history_shown books r j) (log_shown Rs jobs r j)) value in
        subst (IsUnsettled S Ps books jobs) (sym shown) (there, due, first, refl, refl)

    pub are_compared : All (Agrees S Ps books jobs) (compared_places Ps) → AreCompared S Ps books jobs
    are_compared right = record { there = there; due = due; right = right }

-- What is said of the outcomes of safe sets holds of a settlement, where Qs are the profiles as the program reads them. Of no profiles it is to be shown.
module _ (C : State → List Parts → List Rule → Histories → Outcome → Type 0) (law : OfSafeSets C)
    (none : (S : State) (Rs : List Rule) (histories : Histories) (o : Outcome) → Settles S [] histories o → C S [] Rs histories o) where
  for_set : (S : State) (Ps : List Parts) (Rs : List Rule) (histories : Histories) (o : Outcome) → IsStateFor S Ps → HasReplicas S Ps → AreProfiles Ps → IsSafe Ps Rs → Settles S Ps histories o
      → C S Ps Rs histories o
  for_set S [] Rs histories o valid there facts safe settles = none S Rs histories o settles
  for_set S (P ∷ Ps) Rs histories o valid there facts safe settles = law S (P ∷ Ps) Rs histories o (valid (omega arith)) there facts safe settles

  for_result : {E : Type 0} → (S : State) (Ps : List Parts) (Rs : List Rule) (books : List BookValue) (jobs : List JobValue) (r : Result Outcome E) → IsStateFor S Ps → AreProfiles Ps → IsSafe Ps Rs
      → IfOk r (Settles S Ps (history_at books)) → IfOk r (λ o. AreCompared S Ps books jobs) → IfOk r (C S Ps Rs (history_at books))
  for_result S Ps Rs books jobs (Ok o) valid facts safe settles compared = for_set S Ps Rs (history_at books) o valid (have_replicas S Ps compared.there) facts safe settles
  for_result S Ps Rs books jobs (Err e) valid facts safe settles compared = tt

  pub settled_for : {E : Type 0} → (S : State) {Qs Ps : List Parts} (value : Qs ≡ Ps) (Rs : List Rule) (books : List BookValue) (jobs : List JobValue) (r : Result Outcome E) → IsStateFor S Qs
      → AreProfiles Qs → IsSafe Ps Rs → IfOk r (Settles S Qs (history_at books)) → IfOk r (λ o. AreCompared S Qs books jobs) → IfOk r (C S Ps Rs (history_at books))
  settled_for S {Qs} {Ps} value Rs books jobs r valid facts safe settles compared =
      for_result S Ps Rs books jobs r (subst (IsStateFor S) value valid) (subst AreProfiles value facts) safe
      (subst (λ (Os : List Parts). IfOk r (Settles S Os (history_at books))) value settles) (subst (λ (Os : List Parts). IfOk r (λ o. AreCompared S Os books jobs)) value compared)
