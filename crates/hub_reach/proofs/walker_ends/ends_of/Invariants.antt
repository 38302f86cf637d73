use Rattle.std.proofs.Common.{◌≡◌, ◌++◌, drop, map}
use Rattle.hub_reach.specs.WalkerEnds.{bar_ends}
use Rattle.hub_reach.proofs.walker_ends.ends_of.Given as goal

abbrev pub invariant-loop-bar : goal.invariant-loop-bar
invariant-loop-bar l = l.ends.items ++ map (bar_ends l.set.alternatives) (drop l.bar-index l.bars) ≡ map (bar_ends l.set.alternatives) l.bars
