use Rattle.std.proofs.Common.{◌∙◌, List, ap, subst}
use Rattle.hub_text.specs.laws.Fails.{passed-up}
use Rattle.hub_cert.specs.Set.{HasValidProfiles, Members}
use Rattle.hub_job.specs.declared.outcome.Outcome.{Outcome}
use Rattle.hub_runner.specs.Order.{IsSettledBy}
use Rattle.hub_runner.specs.declared.pairs.JobPair.{JobPair}
use Rattle.hub_runner.specs.Working.{IsNotRun, MayRun}
use Rattle.hub_starter.specs.Waved.{part_for}
use Rattle.hub_starter.proofs.Runs.{one_wave, some_profiles}
use Rattle.hub_starter.proofs.running.run_wave.Goals as goal

pub returns-in_err-part-clause-valid : goal.returns-in_err-part-clause-valid
returns-in_err-part-clause-valid g c =
    c.find_missing.ensures.valid
    (some_profiles c.args.waves.now.set c.set-set.result.now c.profiles.result.now c.set-set.ensures.value c.profiles.ensures.value c.requires.some)

pub returns-in_err-outcome-clause-valid : goal.returns-in_err-outcome-clause-valid
returns-in_err-outcome-clause-valid g c =
    c.find_missing.ensures.valid
    (some_profiles c.args.waves.now.set c.set-set.result.now c.profiles.result.now c.set-set.ensures.value c.profiles.ensures.value c.requires.some)

pub returns-in_err-outcome-clause-refused : goal.returns-in_err-outcome-clause-refused
returns-in_err-outcome-clause-refused g c =
    let e = c.in_err-outcome.field-0.0 in
    passed-up c.from_residual-in_err-outcome.result e (IsNotRun c.args.state.now c.args.waves.now.set.profiles c.args.workers) c.from_residual-in_err-outcome.ensures.1
    (subst (λ (M : Members). IsNotRun c.args.state.now M.profiles c.args.workers e) c.set-set.ensures.value c.in_err-outcome.ensures.refused)

pub returns-clause-valid : goal.returns-clause-valid
returns-clause-valid g c =
    c.find_missing.ensures.valid
    (some_profiles c.args.waves.now.set c.set-set.result.now c.profiles.result.now c.set-set.ensures.value c.profiles.ensures.value c.requires.some)

pub returns-clause-run : goal.returns-clause-run
returns-clause-run g c =
    subst (λ (M : Members). MayRun c.args.state.now M.profiles c.args.workers)
    c.set-set.ensures.value c.in_ok-outcome.ensures.run

pub returns-clause-wave : goal.returns-clause-wave
returns-clause-wave g c =
    let S = c.args.state.now in
    let w = c.args.waves.now in
    let o : Outcome = c.in_ok-outcome.outcome in
    let same = c.set-set.ensures.value in
    let some = some_profiles w.set c.set-set.result.now c.profiles.result.now same c.profiles.ensures.value c.requires.some in
    let some_left = some_profiles w.set c.set-set.result.now c.profiles-2.result.now same c.profiles-2.ensures.value c.requires.some in
    one_wave S w c.set-set.ensures.are (subst HasValidProfiles same c.profiles.ensures.valid)
    (c.find_missing.ensures.valid some) c.args.workers c.a_wave_is_serial.ensures c.args.wave c.as_slice.result.now o
    (c.as_slice.ensures.value ∙ (c.in_ok-part.ensures ∙ ap (λ ns. part_for ns c.args.wave) c.numbers.ensures))
    (subst (λ (M : Members). IsSettledBy S M.profiles w.pairs o) same
    (subst (λ (ps : List JobPair). IsSettledBy S c.set-set.result.now.profiles ps o) c.pairs-pairs.ensures c.in_ok-outcome.ensures.settled))
    c.in_ok-outcome.ensures.rest c.in_ok-outcome.ensures.ended
    (subst (λ (M : Members). MayRun S M.profiles c.args.workers) same c.in_ok-outcome.ensures.run)
    (c.find_missing-2.ensures.valid some_left)
