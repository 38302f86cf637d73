use Rattle.hub_cert.proofs.DistinctRoots.{NoneNestedBelow}
use Rattle.hub_cert.proofs.set.refusals.nested_among.Given as goal

abbrev pub invariant-loop-first : goal.invariant-loop-first
invariant-loop-first l = NoneNestedBelow l.roots l.distinct l.first
