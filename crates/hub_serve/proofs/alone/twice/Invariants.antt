use Rattle.std.proofs.Common.{◌≡◌, length}
use Rattle.hub_serve.specs.Plans.{twice}
use Rattle.hub_serve.proofs.alone.twice.Given as goal

abbrev pub invariant-loop-name : goal.invariant-loop-name
invariant-loop-name l = twice l.rest ≡ twice l.fn.names

abbrev pub decreases-loop-name : goal.decreases-loop-name
decreases-loop-name l = length l.rest
