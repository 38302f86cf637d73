use Rattle.hub_cert.proofs.DistinctRoots.{NoneAfter}
use Rattle.hub_cert.proofs.set.refusals.nested_root_after.Given as goal

abbrev pub invariant-loop-second : goal.invariant-loop-second
invariant-loop-second l = NoneAfter l.roots l.distinct l.first l.second
