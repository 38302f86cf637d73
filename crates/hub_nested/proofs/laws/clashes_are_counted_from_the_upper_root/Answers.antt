use Rattle.std.proofs.Common.{inl, inr}
use Rattle.hub_nested.proofs.Clashing.{first-clash, none-below, second-clash}
use Rattle.hub_nested.proofs.laws.clashes_are_counted_from_the_upper_root.Goals as goal

pub returns-clause-apart : goal.returns-clause-apart
returns-clause-apart c = λ P Q a b r s at_a at_b e w. none-below P Q a b r s at_a at_b e w.0 w.1 (inl w.2)

pub returns-clause-apart_second : goal.returns-clause-apart_second
returns-clause-apart_second c = λ P Q a b r s at_a at_b e w. none-below P Q a b r s at_a at_b e w.1 w.0 (inr w.2)

pub returns-clause-first : goal.returns-clause-first
returns-clause-first c = λ P Q a b r s t own_p own_q at_a at_b e w. first-clash P Q a b r s at_a at_b t own_p own_q e w

pub returns-clause-second : goal.returns-clause-second
returns-clause-second c = λ P Q a b r s t own_p own_q at_a at_b e w. second-clash P Q a b r s at_a at_b t own_p own_q e w
