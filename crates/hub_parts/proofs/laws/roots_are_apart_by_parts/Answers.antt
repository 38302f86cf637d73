use Rattle.hub_parts.proofs.RootParts.{roots-by-parts, roots-to-parts}
use Rattle.hub_parts.proofs.laws.roots_are_apart_by_parts.Goals as goal

pub returns : goal.returns
returns c = λ Ps Rs. (roots-to-parts Ps Rs, roots-by-parts Ps Rs)
