use Rattle.hub_reach.specs.contracts.shape.ShapePartialEq.TheImpl as tested
use Rattle.hub_reach.specs.contracts.shape.ShapeEq.TheImpl.Laws as tested_laws
use Rattle.hub_reach.specs.contracts.shape.ShapeOrd.TheImpl as ordered
use Rattle.hub_reach.specs.contracts.shape.ShapeOrd.TheImpl.Laws as ordered_laws
use Rattle.hub_reach.proofs.Exact.{shape_exact, same-eq, same-cmp}
use Rattle.hub_reach.proofs.laws.shapes_compare_exactly.Goals as goal

pub returns-clause-equal : goal.returns-clause-equal
returns-clause-equal c = λ x y. same-eq tested.eq-value.it x y (shape_exact x y) (tested_laws.laws-law.refl x)

pub returns-clause-tied : goal.returns-clause-tied
returns-clause-tied c = λ x y. same-cmp tested.eq-value.it ordered.cmp-value.it x y (ordered_laws.matches_eq-law x y) (shape_exact x y) (tested_laws.laws-law.refl x)
