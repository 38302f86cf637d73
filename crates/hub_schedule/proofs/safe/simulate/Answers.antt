use Rattle.std.proofs.Common.{◌≡◌, List, ap, ◌∙◌, subst}
use Rattle.std.specs.Prelude.{map}
use Rattle.hub_cert.specs.Set.{Members, forbidden_by}
use Rattle.hub_profile.specs.Parts.{Parts}
use Rattle.hub_schedule.specs.Settled.{AreProfiles}
use Rattle.hub_schedule.proofs.Simulation.{HaveRun, promise_of, lone_of, logs_of, lost_of, enough_of, turns_suffice_for}
use Rattle.hub_schedule.proofs.safe.simulate.Goals as goal

pub returns : goal.returns
returns c =
    let S = c.args.state.now in
    let M = c.args.verified.now in
    let Rs = map forbidden_by M.rules in
    let js = c.args.schedule.now in
    let r = c.simulate_jobs.result in
    let same : c.profiles.result.now ≡ M.profiles = c.profiles.ensures.value ∙ ap (λ (m : Members). m.profiles) c.set.ensures.value in
    let facts : AreProfiles M.profiles = subst AreProfiles (ap (λ (m : Members). m.profiles) c.set.ensures.value) c.profiles.ensures.valid in
    let ran : HaveRun S M.profiles js r =
    subst (λ (Ps : List Parts). HaveRun S Ps js r) same
    (record { world = c.simulate_jobs.ensures.world; run = c.simulate_jobs.ensures.run; refused = c.simulate_jobs.ensures.refused; valid = c.simulate_jobs.ensures.valid }) in
    record {
      promise = promise_of S M.profiles Rs js r ran facts c.set.ensures.safe c.schedules_settle.ensures c.schedules_keep_the_promise.ensures.promise c.schedules_keep_the_promise.ensures.alone;
      logs = logs_of S M.profiles Rs js r ran facts c.set.ensures.safe c.schedules_give_logs_alone.ensures.logs;
      lost = lost_of S M.profiles Rs js r ran facts c.set.ensures.safe c.schedules_give_logs_alone.ensures.lost;
      enough = enough_of S M.profiles Rs js r ran facts c.set.ensures.safe c.schedules_give_logs_alone.ensures.enough;
      suffice = turns_suffice_for c.schedules_give_logs_alone.ensures.suffice S M.profiles ran.valid facts;
      lone = lone_of S M.profiles Rs js r ran facts c.set.ensures.safe c.a_lone_job_is_synchronized.ensures;
      world = ran.world;
      run = ran.run;
      refused = ran.refused;
    }
