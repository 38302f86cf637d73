use Rattle.std.proofs.Common.{subst, arith}
use Rattle.hub_cert.specs.Set.{HasValidProfiles}
use Rattle.hub_starter.proofs.Runs.{all_ended, all_serial, has_profiles, no_profiles, none_ended, none_refused, none_run, none_serial}
use Rattle.hub_starter.proofs.running.run_in_order.Goals as goal

pub returns-then-is_empty-clause-serial : goal.returns-then-is_empty-clause-serial
returns-then-is_empty-clause-serial g c =
    none_serial c.waves_are_serial.ensures.none c.args.state.now c.args.waves.now.set.profiles c.run_nothing.result
    (no_profiles c.args.waves.now.set c.set.result.now c.profiles.result.now c.is_empty.result c.set.ensures.value c.profiles.ensures.value c.is_empty.ensures c.if-is_empty.true)
    c.run_nothing.ensures.ok

pub returns-then-is_empty-clause-ended : goal.returns-then-is_empty-clause-ended
returns-then-is_empty-clause-ended g c = none_ended c.args.state.now c.run_nothing.result c.run_nothing.ensures.ok

pub returns-then-is_empty-clause-run : goal.returns-then-is_empty-clause-run
returns-then-is_empty-clause-run g c =
    none_run c.args.state.now c.args.waves.now.set.profiles c.args.workers c.run_nothing.result
    (no_profiles c.args.waves.now.set c.set.result.now c.profiles.result.now c.is_empty.result c.set.ensures.value c.profiles.ensures.value c.is_empty.ensures c.if-is_empty.true)
    (omega arith, omega arith)

pub returns-then-is_empty-clause-refused : goal.returns-then-is_empty-clause-refused
returns-then-is_empty-clause-refused g c =
    none_refused c.args.state.now c.args.waves.now.set.profiles c.args.workers c.run_nothing.result
    (omega arith, omega arith) c.run_nothing.ensures.refused

pub run_all-requires-clause-some : goal.run_all-requires-clause-some
run_all-requires-clause-some g c κs live =
    has_profiles c.args.waves.now.set c.set.result.now c.profiles.result.now c.is_empty.result c.set.ensures.value c.profiles.ensures.value c.is_empty.ensures c.if-is_empty.false

pub returns-clause-serial : goal.returns-clause-serial
returns-clause-serial g c =
    all_serial c.args.state.now c.args.waves.now c.set.ensures.are (subst HasValidProfiles c.set.ensures.value c.profiles.ensures.valid)
    c.run_all.ensures.valid c.args.workers c.waves_are_serial.ensures.all c.run_all.result c.run_all.ensures.after c.run_all.ensures.run

pub returns-clause-ended : goal.returns-clause-ended
returns-clause-ended g c =
    all_ended c.args.state.now c.args.waves.now c.args.waves.now.count c.run_all.result c.run_all.ensures.after
