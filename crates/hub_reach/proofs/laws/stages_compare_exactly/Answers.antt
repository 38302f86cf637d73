use Rattle.std.proofs.Common.{ap}
use Rattle.hub_reach.specs.contracts.stage.StageHash.TheImpl as hashed
use Rattle.hub_reach.specs.contracts.stage.StagePartialEq.TheImpl as tested
use Rattle.hub_reach.specs.contracts.stage.StageEq.TheImpl.Laws as tested_laws
use Rattle.hub_reach.specs.contracts.stage.StageOrd.TheImpl as ordered
use Rattle.hub_reach.specs.contracts.stage.StageOrd.TheImpl.Laws as ordered_laws
use Rattle.hub_reach.proofs.Exact.{stage_exact, same-eq, same-cmp}
use Rattle.hub_reach.proofs.laws.stages_compare_exactly.Goals as goal

pub returns-clause-equal : goal.returns-clause-equal
returns-clause-equal c = λ x y. same-eq tested.eq-value.it x y (stage_exact (λ a b. (c.spots_compare_exactly.ensures.equal a b).0) x y) (tested_laws.laws-law.refl x)

pub returns-clause-tied : goal.returns-clause-tied
returns-clause-tied c = λ x y. same-cmp tested.eq-value.it ordered.cmp-value.it x y (ordered_laws.matches_eq-law x y) (stage_exact (λ a b. (c.spots_compare_exactly.ensures.equal a b).0) x y) (tested_laws.laws-law.refl x)

pub returns-clause-hashed : goal.returns-clause-hashed
returns-clause-hashed c = λ x y h. ap hashed.hash_input-value.it (stage_exact (λ a b. (c.spots_compare_exactly.ensures.equal a b).0) x y h)
