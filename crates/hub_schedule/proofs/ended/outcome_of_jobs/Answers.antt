use Rattle.std.proofs.Common.{◌≡◌, ℕ, List, Some, slice_get, sym, subst}
use Rattle.hub_job.specs.Outcome.{jobs_of}
use Rattle.hub_job.specs.JobValue.{JobValue}
use Rattle.hub_schedule.specs.declared.slot.WorkingTree.{WorkingTree}
use Rattle.hub_schedule.specs.Ended.{AreSlotsOf, HasPlaces}
use Rattle.hub_schedule.proofs.EndedJobs.{ends_for, have_places, outcome_for, stands_for, world_of}
use Rattle.hub_schedule.proofs.ended.outcome_of_jobs.Goals as goal

pub slots_of-requires : goal.slots_of-requires
slots_of-requires c =
    let r = c.requires in
    subst (λ (ts : List WorkingTree). (j : ℕ) (J : JobValue) → slice_get c.args.jobs.items j ≡ Some J → HasPlaces ts J.profile) (sym c.as_slice.ensures.value)
    (have_places c.args.state.now r.0 r.1 c.args.jobs.items c.args.trees.items r.2)

pub outcome_of-requires : goal.outcome_of-requires
outcome_of-requires c =
    let S = c.args.state.now in
    let r = c.requires in
    let are = subst (λ (ts : List WorkingTree). AreSlotsOf ts c.args.jobs.items c.in_ok-slots.slots.items) c.as_slice.ensures.value c.in_ok-slots.ensures in (
      jobs_of S r.0,
      world_of r.1 c.args.jobs.items,
      stands_for S r.0 r.1 c.args.jobs.items c.args.trees.items c.in_ok-slots.slots.items r.2 are,
    )

pub returns : goal.returns
returns c =
    let S = c.args.state.now in
    let jobs = c.args.jobs.items in
    let trees = c.args.trees.items in
    let slots = c.in_ok-slots.slots.items in
    let are = subst (λ (ts : List WorkingTree). AreSlotsOf ts jobs slots) c.as_slice.ensures.value c.in_ok-slots.ensures in
    record {
      outcome = outcome_for _ S jobs trees slots are c.outcome_of.result c.outcome_of.ensures.outcome c.outcome_of.ensures.ends;
      ends = ends_for _ S jobs trees slots are c.outcome_of.result c.outcome_of.ensures.ends;
    }
