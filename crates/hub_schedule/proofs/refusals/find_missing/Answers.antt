use Rattle.std.proofs.Common.{refl, sym, ◌∙◌}
use Rattle.std.proofs.lemmas.Option.{slice_get_read}
use Rattle.hub_schedule.proofs.Runnable.{missing_here, missing_later}
use Rattle.hub_schedule.proofs.refusals.find_missing.Goals as goal

pub returns-in-Some-clause-value : goal.returns-in-Some-clause-value
returns-in-Some-clause-value c =
    let Ps = c.args.profiles.now in
    let P = c.profile-item.result in
    let n = c.loop-profile.profile-index in
    sym (missing_here c.args.state.now Ps n P c.in-Some.root.now (slice_get_read Ps _ n P refl c.loop-profile-test.true c.profile-item.is) (sym c.in-Some.ensures.value))
    ∙ c.loop-profile.invariant.missing

pub loop-profile-preserved : goal.loop-profile-preserved
loop-profile-preserved c =
    let Ps = c.args.profiles.now in
    let P = c.profile-item.result in
    let n = c.loop-profile.profile-index in
    record {
      missing = missing_later c.args.state.now Ps n P (slice_get_read Ps _ n P refl c.loop-profile-test.true c.profile-item.is) (sym c.in_default.ensures.value)
          ∙ c.loop-profile.invariant.missing;
      valid = λ h. c.find_missing_of.ensures.valid;
    }
