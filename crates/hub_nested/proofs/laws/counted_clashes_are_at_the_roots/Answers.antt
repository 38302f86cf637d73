use Rattle.hub_nested.proofs.Backwards.{first-back, second-back}
use Rattle.hub_nested.proofs.laws.counted_clashes_are_at_the_roots.Goals as goal

pub returns-clause-first : goal.returns-clause-first
returns-clause-first c = λ P Q a b r s t own_p own_q at_a at_b e w. first-back P Q a b r s at_a at_b t own_p own_q e w

pub returns-clause-second : goal.returns-clause-second
returns-clause-second c = λ P Q a b r s t own_p own_q at_a at_b e w. second-back P Q a b r s at_a at_b t own_p own_q e w
