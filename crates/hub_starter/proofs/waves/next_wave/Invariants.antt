use Rattle.hub_starter.proofs.Rising.{FollowsSome}
use Rattle.hub_starter.proofs.waves.next_wave.Given as goal

abbrev pub invariant-loop-pair : goal.invariant-loop-pair
invariant-loop-pair l = FollowsSome l.profiles l.pairs l.numbers l.pair-index l.next
