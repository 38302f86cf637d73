use Rattle.hub_cert.proofs.KeptValues.{apart-silent}
use Rattle.hub_cert.proofs.laws.kept_values_rule_out.Goals as goal

pub returns : goal.returns
returns c = apart-silent c.values_apart_reach_apart.ensures c.fronts_apart_match_nothing.ensures
