use Rattle.hub_nested.proofs.Breaching.{breach-said, no-breach}
use Rattle.hub_nested.proofs.laws.breaches_are_counted_from_the_upper_root.Goals as goal

pub returns-clause-apart : goal.returns-clause-apart
returns-clause-apart c = λ P a r p q R at_a e so reached hit. no-breach P a r p q R at_a so reached e

pub returns-clause-breach : goal.returns-clause-breach
returns-clause-breach c = λ P a r p q R u own none at_a e so reached may hit.
    breach-said P a r p q R at_a so reached own none may hit u e
