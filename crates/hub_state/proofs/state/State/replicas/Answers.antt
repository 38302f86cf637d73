use Rattle.std.proofs.Common.{sym, ap, ◌∙◌}
use Rattle.std.specs.FinMap.{entries}
use Rattle.hub_state.specs.State.{State}
use Rattle.hub_state.proofs.Maps.{entries-map_in}
use Rattle.hub_state.proofs.state.State.replicas.Goals as goal

pub returns : goal.returns
returns c = ap (λ (S : State). entries S.replicas) (sym c.self.view_is) ∙ entries-map_in c.self.inside.replicas c.len-len.ensures.ordered
