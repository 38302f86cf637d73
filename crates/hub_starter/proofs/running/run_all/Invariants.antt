use Rattle.hub_runner.specs.Working.{MayRun}
use Rattle.hub_starter.specs.Waved.{IsAfterWaves}
use Rattle.hub_starter.proofs.running.run_all.Given as goal

abbrev pub invariant-loop-wave : goal.invariant-loop-wave
invariant-loop-wave g l = record {
  after : IsAfterWaves l.state l.waves l.wave l.outcome;
  run : MayRun l.state l.waves.set.profiles l.workers;
}
