use Rattle.hub_cert.proofs.NearInOrder.{are-sorted}
use Rattle.hub_cert.proofs.set.kept_values.KeptValues.of.Goals as goal

pub invariant_of-result : goal.invariant_of-result
invariant_of-result c =
    are-sorted c.args.paths.now c.in_ok-sorted.sorted.items c.sort_unstable.new.self.items c.in_ok-sorted.ensures c.sort_unstable.ensures.permutation c.sort_unstable.ensures.sorted
