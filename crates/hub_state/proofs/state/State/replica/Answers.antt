use Rattle.std.proofs.Common.{sym, ap, ◌∙◌}
use Rattle.std.specs.FinMap.{get}
use Rattle.hub_state.specs.State.{State, Text, root_text}
use Rattle.hub_state.specs.View.{map_in}
use Rattle.hub_state.proofs.Maps.{get-map_in}
use Rattle.hub_state.proofs.States.{root_text-bytes}
use Rattle.hub_state.proofs.state.State.replica.Goals as goal

pub returns-clause-replica : goal.returns-clause-replica
returns-clause-replica c =
    let m = c.self.inside.replicas in
    c.get.ensures.value ∙ sym (get-map_in c.as_str.result.now m) ∙ ap (λ (t : Text). get (map_in m.entries) t) (c.as_str.ensures ∙ root_text-bytes c.args.root.now)
    ∙ ap (λ (S : State). get S.replicas (root_text c.args.root.now)) c.self.view_is
