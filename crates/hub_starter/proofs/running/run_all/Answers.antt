use Rattle.std.proofs.Common.{◌≡◌, ◌∙◌, ℕ, List, subst, sym, arith}
use Rattle.hub_text.specs.laws.Fails.{passed-up}
use Rattle.hub_cert.specs.Set.{HasValidProfiles}
use Rattle.hub_runner.specs.Working.{IsNotRun}
use Rattle.hub_starter.specs.Waved.{AreMergedEnds, IsAfterWaves}
use Rattle.hub_starter.proofs.Faults.{not_run_later}
use Rattle.hub_starter.proofs.Runs.{first_is_after, one_more}
use Rattle.hub_starter.proofs.running.run_all.Goals as goal

pub loop-wave-init : goal.loop-wave-init
loop-wave-init g c =
    let may = c.in_ok-outcome.ensures.run in
    record {
      after = first_is_after c.args.state.now c.args.waves.now c.set.ensures.are
          (subst HasValidProfiles c.set.ensures.value c.profiles.ensures.valid) c.in_ok-outcome.ensures.valid c.args.workers
          c.waves_are_serial.ensures.first c.in_ok-outcome.outcome may c.in_ok-outcome.ensures.wave;
      run = may;
    }

pub returns-in_err-later-clause-refused : goal.returns-in_err-later-clause-refused
returns-in_err-later-clause-refused g c =
    let S = c.args.state.now in
    let Ps = c.args.waves.now.set.profiles in
    let are = c.loop-wave.invariant in
    let e = c.in_err-later.field-0.0 in
    passed-up c.from_residual-in_err-later.result e (IsNotRun S Ps c.args.workers) c.from_residual-in_err-later.ensures.1
    (not_run_later S c.loop-wave.outcome.state Ps c.args.workers e are.run are.after.some.there c.in_err-later.ensures.refused)

pub merged-outcome-requires : goal.merged-outcome-requires
merged-outcome-requires g c =
    c.in_ok-later.ensures.wave.some.all ∙ sym c.loop-wave.invariant.after.some.all

pub loop-wave-preserved : goal.loop-wave-preserved
loop-wave-preserved g c =
    let are = c.loop-wave.invariant in
    record {
      after = one_more c.args.state.now c.args.waves.now c.set.ensures.are
          (subst HasValidProfiles c.set.ensures.value c.profiles.ensures.valid) c.in_ok-outcome.ensures.valid c.args.workers
          c.waves_are_serial.ensures.more c.loop-wave.wave c.loop-wave.outcome c.in_ok-later.later c.merged-outcome.result
          are.run are.after c.in_ok-later.ensures.wave c.merged-outcome.ensures.state
          (subst (λ (ns : List ℕ). AreMergedEnds ns c.loop-wave.wave c.loop-wave.outcome.jobs c.in_ok-later.later.jobs c.merged-outcome.result.jobs)
          c.numbers.ensures c.merged-outcome.ensures.jobs);
      run = are.run;
    }

pub returns-clause-after : goal.returns-clause-after
returns-clause-after g c =
    let S = c.args.state.now in
    let w = c.args.waves.now in
    let some = c.set.ensures.are.some in
    let count = c.count-wave-end.ensures in
    let last : c.loop-wave.wave ≡ w.count = omega (arith, c.loop-wave-test.false, c.loop-wave.auto.wave-end, some, count) in
    subst (λ k. IsAfterWaves S w k c.loop-wave.outcome) last c.loop-wave.invariant.after
