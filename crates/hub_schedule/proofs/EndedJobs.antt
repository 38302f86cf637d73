-- Jobs that have ended stand for a world: that of their logs and the replicas that they leave.
use Rattle.std.proofs.Common.{◌≡◌, ◌+◌, List, [], ◌∷◌, ◌++◌, length, map, Some, Result, Ok, Err, IfOk, refl, ap, sym, ◌∙◌, subst, length-append, arith}
use Rattle.std.specs.Prelude.{ℕ, zero, suc, slice_get, slice_index_or}
use Rattle.std.proofs.lemmas.List.{length-map}
use Rattle.std.proofs.lemmas.Option.{same_Some}
use Rattle.hub_text.specs.laws.List.{snoc-new, snoc-old}
use Rattle.hub_path.specs.Path.{Path}
use Rattle.hub_path.specs.declared.side.Side.{Side}
use Rattle.hub_path.specs.declared.side.Side.TheVariants.{Left, Right}
use Rattle.hub_profile.specs.Parts.{Parts}
use Rattle.hub_tree.specs.Tree.{Replica}
use Rattle.hub_state.specs.State.{State}
use Rattle.hub_job.specs.declared.outcome.Outcome.{Outcome}
use Rattle.hub_job.specs.declared.log.Logged.{Logged}
use Rattle.hub_job.specs.JobValue.{JobValue}
use Rattle.hub_job.specs.Outcome.{archive_of, jobs_of, IsOutcomeWith}
use Rattle.hub_job.specs.Run.{root_at}
use Rattle.hub_job.specs.World.{World, log_of}
use Rattle.hub_schedule.specs.declared.slot.Slot.{Slot}
use Rattle.hub_schedule.specs.declared.slot.WorkingTree.{WorkingTree}
use Rattle.hub_schedule.specs.Ended.{ended_value, IsEnded, HasPlaces, AreEndedWith, IsSlotOf, AreSlotsOf}
use Rattle.hub_schedule.specs.forms.Left.{end_value}
use Rattle.hub_schedule.specs.Promise.{HasReplicas, log_or_none, logs_in}
use Rattle.hub_schedule.specs.Table.{place_on, IsOutcomeAfter, IsTreeNumber, IsSlot, ShowsWorld}
use Rattle.hub_schedule.proofs.Opened.{get_push}

abbrev job_log : JobValue → List Logged
job_log e = e.log

-- Nothing reads the histories of the world.
abbrev pub world_of : (Path → Replica) → List JobValue → World
world_of replica jobs = record { replica = replica; history = λ r. []; logs = map job_log jobs }

log_there : (jobs : List JobValue) (j : ℕ) (e : JobValue) → slice_get jobs j ≡ Some e → slice_index_or (map job_log jobs) j [] ≡ e.log
log_there [] j e at = cc
log_there (d ∷ jobs) zero e at = ap job_log (same_Some d e at)
log_there (d ∷ jobs) (suc j) e at = log_there jobs j e at

log_ended : (jobs : List JobValue) (j : ℕ) → slice_index_or (map job_log jobs) j [] ≡ log_or_none (slice_get (map ended_value jobs) j)
log_ended [] j = refl
log_ended (d ∷ jobs) zero = refl
log_ended (d ∷ jobs) (suc j) = log_ended jobs j

pub logs_are : (replica : Path → Replica) (jobs : List JobValue) (o : Outcome) → o.jobs ≡ map ended_value jobs → log_of (world_of replica jobs) ≡ logs_in o
logs_are replica jobs o e = λ i j. (log_ended jobs j ∙ ap (λ es. log_or_none (slice_get es j)) (sym e)) i

-- Each job's replicas are there.
pub have_places : (S : State) (Ps : List Parts) (replica : Path → Replica) (jobs : List JobValue) (trees : List WorkingTree) → AreEndedWith S Ps replica jobs trees
    → (j : ℕ) (e : JobValue) → slice_get jobs j ≡ Some e → HasPlaces trees e.profile
have_places S Ps replica jobs trees ended j e at = ended.places j e.profile (ended.each j e at).is

slot_is : (S : State) (Ps : List Parts) (replica : Path → Replica) (jobs : List JobValue) (trees : List WorkingTree) (j : ℕ) (e : JobValue) (s : Slot)
    → slice_get jobs j ≡ Some e → IsEnded S Ps j e → IsSlotOf trees e s → IsSlot (jobs_of S Ps) (world_of replica jobs) trees j s
slot_is S Ps replica jobs trees j e s at ended is =
    let profile : s.job.profile ≡ e.profile = ap (λ (J : JobValue). J.profile) is.job in
    let there : slice_get Ps j ≡ Some s.job.profile = ended.is ∙ ap (λ (P : Parts). Some P) (sym profile) in
    record {
      is = there;
      valid = is.valid;
      archive = ap (λ (J : JobValue). J.archive) is.job
          ∙ (ended.archive ∙ (ap (λ (P : Parts). archive_of S (Some P)) (sym profile) ∙ ap (archive_of S) (sym there)));
      number = ap (λ (J : JobValue). J.number) is.job ∙ ended.number;
      log = ap (λ (J : JobValue). J.log) is.job ∙ sym (log_there jobs j e at);
      places = is.places;
    }

pub stands_for : (S : State) (Ps : List Parts) (replica : Path → Replica) (jobs : List JobValue) (trees : List WorkingTree) (slots : List Slot) → AreEndedWith S Ps replica jobs trees → AreSlotsOf trees jobs slots
    → ShowsWorld (jobs_of S Ps) (world_of replica jobs) slots trees
stands_for S Ps replica jobs trees slots ended are = record {
  each = λ j s at. let of = are.each j s at in slot_is S Ps replica jobs trees j of.0 s of.1 (ended.each j of.0 of.1) of.2;
  count = are.count ∙ ended.count;
  logs = length-map jobs job_log ∙ ended.count;
  replicas = ended.replicas;
  roots = ended.roots;
}

-- The jobs end in the same way.
pub same_ends : (jobs : List JobValue) (slots : List Slot) → length slots ≡ length jobs → ((j : ℕ) (s : Slot) → slice_get slots j ≡ Some s → (e : JobValue) × (slice_get jobs j ≡ Some e) × (s.job ≡ e))
    → map end_value slots ≡ map ended_value jobs
same_ends [] [] e each = refl
same_ends [] (s ∷ slots) e each = absurd (omega (arith, e))
same_ends (d ∷ jobs) [] e each = absurd (omega (arith, e))
same_ends (d ∷ jobs) (s ∷ slots) e each =
    let first = each 0 s refl in
    let same : s.job ≡ d = first.2 ∙ sym (same_Some d first.0 first.1) in
    ap (λ x. x ∷ map end_value slots) (ap ended_value same)
    ∙ ap (λ xs. ended_value d ∷ xs) (same_ends jobs slots (omega (arith, e)) (λ j t at. each (suc j) t at))

-- What the slots leave is what the jobs leave.
pub outcome_is : (S : State) (jobs : List JobValue) (trees : List WorkingTree) (slots : List Slot) (o : Outcome) → AreSlotsOf trees jobs slots → IsOutcomeAfter S slots trees o → o.jobs ≡ map ended_value jobs
    → (Ps : List Parts) (replica : Path → Replica) → HasReplicas S Ps → AreEndedWith S Ps replica jobs trees → IsOutcomeWith S Ps (logs_in o) replica o
outcome_is S jobs trees slots o are after ends Ps replica there ended =
    subst (λ log. IsOutcomeWith S Ps log replica o) (logs_are replica jobs o ends)
    (after.leaves Ps (world_of replica jobs) there (stands_for S Ps replica jobs trees slots ended are))

-- What is told of an outcome that there may be.
module _ (E : Type 0) (S : State) (jobs : List JobValue) (trees : List WorkingTree) (slots : List Slot) (are : AreSlotsOf trees jobs slots) where
  same_jobs : map end_value slots ≡ map ended_value jobs
  same_jobs = same_ends jobs slots are.count (λ j s at. let w = are.each j s at in (w.0, w.1, w.2.job))

  pub outcome_for : (r : Result Outcome E) → IfOk r (IsOutcomeAfter S slots trees) → IfOk r (λ o. o.jobs ≡ map end_value slots)
      → IfOk r (λ o. (Ps : List Parts) (replica : Path → Replica) → HasReplicas S Ps → AreEndedWith S Ps replica jobs trees → IsOutcomeWith S Ps (logs_in o) replica o)
  outcome_for (Ok o) after ends = outcome_is S jobs trees slots o are after (ends ∙ same_jobs)
  outcome_for (Err e) after ends = tt

  pub ends_for : (r : Result Outcome E) → IfOk r (λ o. o.jobs ≡ map end_value slots) → IfOk r (λ o. o.jobs ≡ map ended_value jobs)
  ends_for (Ok o) ends = ends ∙ same_jobs
  ends_for (Err e) ends = tt

-- One more job, and its slot.
pub slots_more : (trees : List WorkingTree) (jobs : List JobValue) (slots : List Slot) (e : JobValue) (s : Slot) → AreSlotsOf trees jobs slots → IsSlotOf trees e s → AreSlotsOf trees (jobs ++ e ∷ []) (slots ++ s ∷ [])
slots_more trees jobs slots e s are of = record {
  each = get_push (λ j t. (d : JobValue) × (slice_get (jobs ++ e ∷ []) j ≡ Some d) × IsSlotOf trees d t) slots s
      (λ j t at. let w = are.each j t at in (w.0, snoc-old jobs e w.0 j w.1, w.2))
      (e, ap (slice_get (jobs ++ e ∷ [])) are.count ∙ snoc-new jobs e, of);
  count = length-append slots (s ∷ []) ∙ (ap (λ n. n + 1) are.count ∙ sym (length-append jobs (e ∷ [])));
}

-- Both replicas of a job.
pub on_both_sides : (trees : List WorkingTree) (P : Parts) (s : Slot) → IsTreeNumber trees (root_at P Left) s.left → IsTreeNumber trees (root_at P Right) s.right → (k : Side) → IsTreeNumber trees (root_at P k) (place_on s k)
on_both_sides trees P s left right Left = left
on_both_sides trees P s left right Right = right
