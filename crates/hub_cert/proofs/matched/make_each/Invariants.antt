use Rattle.hub_cert.specs.Matched.{AreMade}
use Rattle.hub_cert.proofs.matched.make_each.Given as goal

abbrev pub invariant-loop-number : goal.invariant-loop-number
invariant-loop-number g l = AreMade (goal.F-post g l.make) l.made.items l.number
