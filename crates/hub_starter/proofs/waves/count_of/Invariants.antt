use Rattle.hub_starter.proofs.Rising.{CountsSome}
use Rattle.hub_starter.proofs.waves.count_of.Given as goal

abbrev pub invariant-loop-wave : goal.invariant-loop-wave
invariant-loop-wave l = CountsSome l.numbers l.wave-index l.count
