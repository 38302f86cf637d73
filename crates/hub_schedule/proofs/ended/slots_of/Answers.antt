use Rattle.std.proofs.Common.{List, [], ◌∷◌, ◌++◌, length, refl, sym, ◌∙◌, subst}
use Rattle.std.proofs.lemmas.Iterator.Adapters.{YieldsList-from_vec}
use Rattle.std.proofs.lemmas.Iterator.Consumers.{YieldsList-turn}
use Rattle.std.proofs.lemmas.Option.{slice_get_read}
use Rattle.hub_schedule.specs.declared.slot.Slot.{Slot}
use Rattle.hub_schedule.specs.Ended.{AreSlotsOf}
use Rattle.hub_schedule.proofs.EndedJobs.{slots_more}
use Rattle.hub_schedule.proofs.ended.slots_of.Goals as goal

pub slot_of-requires : goal.slot_of-requires
slot_of-requires c =
    let jobs = c.args.jobs.items in
    let i = length c.loop-job.yielded in
    let t = YieldsList-turn (YieldsList-from_vec {s = c.into_iter-job-iterator.result} jobs c.into_iter-job-iterator.ensures.into_iter_gives.0 (c.into_iter-job-iterator.ensures.into_iter_gives.1 ∙ c.args.jobs.ok.0)) c.loop-job.yielded c.loop-job.job-iterator c.loop-job.yielded_by c.next.result c.next.new.self c.in-Some.job c.in-Some.is c.next.ensures.steps in
    c.requires i c.in-Some.job (slice_get_read jobs _ i c.in-Some.job refl t.0 t.1)

pub loop-job-preserved : goal.loop-job-preserved
loop-job-preserved c =
    subst (λ (ss : List Slot). AreSlotsOf c.args.trees.now (c.loop-job.yielded ++ c.in-Some.job ∷ []) ss) (sym c.in_ok-push.ensures.items)
    (slots_more c.args.trees.now c.loop-job.yielded c.loop-job.slots.items c.in-Some.job c.slot_of.result c.loop-job.invariant c.slot_of.ensures)
