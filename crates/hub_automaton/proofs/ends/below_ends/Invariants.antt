use Rattle.std.proofs.Common.{◌≡◌, ◌++◌, drop}
use Rattle.hub_automaton.specs.Ends as ending
use Rattle.hub_automaton.proofs.ends.below_ends.Given as goal

abbrev pub invariant-loop-one : goal.invariant-loop-one
invariant-loop-one l = l.bits.items ++ ending.end_below (drop l.one-index l.alternatives) ≡ ending.end_below l.alternatives
