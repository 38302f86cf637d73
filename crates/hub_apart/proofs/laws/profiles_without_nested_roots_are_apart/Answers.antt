use Rattle.hub_apart.proofs.NestedRoots.{not-nested-apart}
use Rattle.hub_apart.proofs.laws.profiles_without_nested_roots_are_apart.Goals as goal

pub returns : goal.returns
returns c = not-nested-apart c.roots_are_apart_by_parts.ensures
