use Rattle.std.proofs.Common.{ap}
use Rattle.hub_automaton.specs.contracts.spec_set.SpotsHash.TheImpl as hashed
use Rattle.hub_automaton.proofs.Exact.{spots_equal, spots_tied}
use Rattle.hub_automaton.proofs.laws.spots_compare_exactly.Goals as goal

pub returns-clause-equal : goal.returns-clause-equal
returns-clause-equal c = spots_equal

pub returns-clause-tied : goal.returns-clause-tied
returns-clause-tied c = spots_tied

pub returns-clause-hashed : goal.returns-clause-hashed
returns-clause-hashed c = λ a b h. ap hashed.hash_input-value.it ((spots_equal a b).0 h)
