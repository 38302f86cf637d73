use Rattle.hub_parts.proofs.Whole.{by-parts, by-rules, to-parts, to-rules}
use Rattle.hub_parts.proofs.laws.a_set_is_safe_by_its_parts.Goals as goal

pub returns-clause-parts : goal.returns-clause-parts
returns-clause-parts c = λ Ps Rs. (to-parts Ps Rs, by-parts Ps Rs)

pub returns-clause-rules : goal.returns-clause-rules
returns-clause-rules c = λ Ps Rs. (to-rules Ps Rs, by-rules Ps Rs)
