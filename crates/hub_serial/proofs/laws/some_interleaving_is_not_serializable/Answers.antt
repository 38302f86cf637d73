use Rattle.hub_serial.specs.examples.Clashes.{twice}
use Rattle.hub_serial.proofs.Needed.{are_profiles, are_trees, archives, js, not_serializable, replicas}
use Rattle.hub_serial.proofs.laws.some_interleaving_is_not_serializable.Goals as goal

pub returns : goal.returns
returns c = (twice, js, replicas, archives, are_profiles, are_trees, not_serializable c.a_set_keeps_trees.ensures.tree)
