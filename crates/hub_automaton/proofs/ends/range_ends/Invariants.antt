use Rattle.std.proofs.Common.{◌≡◌, ◌++◌, drop}
use Rattle.hub_automaton.specs.Ends as ending
use Rattle.hub_automaton.proofs.ends.range_ends.Given as goal

abbrev pub invariant-loop-i : goal.invariant-loop-i
invariant-loop-i l = l.bits.items ++ ending.end_all l.from l.to l.i (drop l.i l.alternatives) ≡ ending.end_all l.from l.to 0 l.alternatives
