use Rattle.std.proofs.Common.{List, [], ◌∷◌, ◌++◌, length, Some, refl, sym, ◌∙◌, subst, arith}
use Rattle.std.specs.Prelude.{slice_set}
use Rattle.std.proofs.lemmas.Iterator.Adapters.{YieldsList-from_vec}
use Rattle.std.proofs.lemmas.Iterator.Consumers.{YieldsList-end, YieldsList-turn}
use Rattle.std.proofs.lemmas.List.{map-id}
use Rattle.std.proofs.lemmas.Option.{slice_get_read}
use Rattle.std.proofs.lemmas.Result.{IfOk-weaker}
use Rattle.hub_job.specs.JobValue.{JobValue}
use Rattle.hub_runner.proofs.Filling as filling
use Rattle.hub_runner.proofs.Filling.{IsFilling, all_full, filled_more, job_last}
use Rattle.hub_runner.proofs.by_number.in_order.Goals as goal

pub fill-requires : goal.fill-requires
fill-requires c =
    let jobs = c.args.jobs.items in
    let i = length c.loop-job.yielded in
    let J = c.in-Some.job in
    let t = YieldsList-turn (YieldsList-from_vec {s = c.into_iter-job-iterator.result} jobs c.into_iter-job-iterator.ensures.into_iter_gives.0 (c.into_iter-job-iterator.ensures.into_iter_gives.1 ∙ c.args.jobs.ok.0)) c.loop-job.yielded c.loop-job.job-iterator c.loop-job.yielded_by c.next.result c.next.new.self J c.in-Some.is c.next.ensures.steps in
    let below = c.requires.below i J (slice_get_read jobs _ i J refl t.0 t.1) in
    let count = c.loop-job.invariant.count in
    let number = c.number-number.ensures.value in
    omega (arith, below, count, number)

pub loop-job-preserved : goal.loop-job-preserved
loop-job-preserved c =
    let jobs = c.args.jobs.items in
    let i = length c.loop-job.yielded in
    let J = c.in-Some.job in
    let t = YieldsList-turn (YieldsList-from_vec {s = c.into_iter-job-iterator.result} jobs c.into_iter-job-iterator.ensures.into_iter_gives.0 (c.into_iter-job-iterator.ensures.into_iter_gives.1 ∙ c.args.jobs.ok.0)) c.loop-job.yielded c.loop-job.job-iterator c.loop-job.yielded_by c.next.result c.next.new.self J c.in-Some.is c.next.ensures.steps in
    let below = c.requires.below i J (slice_get_read jobs _ i J refl t.0 t.1) in
    let last = job_last c.loop-job.yielded J c.number-number.ensures.run in
    let more = filled_more c.args.n c.loop-job.yielded c.loop-job.slots.items c.loop-job.invariant J last below in
    subst (IsFilling c.args.n (c.loop-job.yielded ++ J ∷ [])) (sym c.fill.ensures)
    (subst (λ n. IsFilling c.args.n (c.loop-job.yielded ++ J ∷ []) (slice_set c.loop-job.slots.items n (Some J))) (sym c.number-number.ensures.value) more)

pub full_slots-requires : goal.full_slots-requires
full_slots-requires c =
    let jobs = c.args.jobs.items in
    let all = YieldsList-end (YieldsList-from_vec {s = c.into_iter-job-iterator.result} jobs c.into_iter-job-iterator.ensures.into_iter_gives.0 (c.into_iter-job-iterator.ensures.into_iter_gives.1 ∙ c.args.jobs.ok.0)) c.loop-job.yielded c.loop-job.job-iterator c.loop-job.yielded_by c.next.result c.next.new.self c.in-None.is c.next.ensures.steps in
    let done = sym (map-id c.loop-job.yielded) ∙ all.0 in
    all_full c.args.n jobs c.loop-job.slots.items c.requires (subst (λ (Js : List JobValue). IsFilling c.args.n Js c.loop-job.slots.items) done c.loop-job.invariant)

pub returns : goal.returns
returns c =
    let jobs = c.args.jobs.items in
    let all = YieldsList-end (YieldsList-from_vec {s = c.into_iter-job-iterator.result} jobs c.into_iter-job-iterator.ensures.into_iter_gives.0 (c.into_iter-job-iterator.ensures.into_iter_gives.1 ∙ c.args.jobs.ok.0)) c.loop-job.yielded c.loop-job.job-iterator c.loop-job.yielded_by c.next.result c.next.new.self c.in-None.is c.next.ensures.steps in
    let done = sym (map-id c.loop-job.yielded) ∙ all.0 in
    IfOk-weaker c.full_slots.result _ _
    (λ v e. filling.in_order c.args.n jobs c.loop-job.slots.items v.items (subst (λ (Js : List JobValue). IsFilling c.args.n Js c.loop-job.slots.items) done c.loop-job.invariant) e)
    c.full_slots.ensures
