use Rattle.std.proofs.Common.{◌≡◌, drop}
use Rattle.hub_report.specs.Pairs.{are_joined}
use Rattle.hub_report.proofs.pair.are_joined.Given as goal

abbrev pub invariant-loop-own : goal.invariant-loop-own
invariant-loop-own l = are_joined l.joined l.pair ≡ are_joined (drop l.own-index l.joined) l.pair
