use Rattle.hub_parts.proofs.Coordinates.{lower-from, lower-to, upper-from, upper-to}
use Rattle.hub_parts.proofs.laws.nested_clashes_are_counted_from_the_upper_root.Goals as goal

pub returns-clause-upper : goal.returns-clause-upper
returns-clause-upper c = λ P Q r x. (upper-from P Q r x, upper-to P Q r x)

pub returns-clause-lower : goal.returns-clause-lower
returns-clause-lower c = λ P Q s x. (lower-from P Q s x, lower-to P Q s x)
