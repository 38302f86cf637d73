use Rattle.std.proofs.Common.{◌∙◌, ap}
use Rattle.hub_reach.specs.Apart.{are_near}
use Rattle.hub_cert.specs.Nearness.{paths_at}
use Rattle.hub_cert.proofs.NearInOrder.{near-sorted}
use Rattle.hub_cert.proofs.set.kept_values.KeptValues.are_near.Goals as goal

pub returns : goal.returns
returns c =
    let us = c.self.inside.sorted.items in
    let vs = c.other.inside.sorted.items in
    c.are_near_in_order.ensures
    ∙ (ap (λ rs. are_near (paths_at rs) (paths_at c.as_slice-2.result.now)) c.as_slice.ensures.value
    ∙ (ap (λ rs. are_near (paths_at us) (paths_at rs)) c.as_slice-2.ensures.value
    ∙ (near-sorted c.self.inside.paths.now c.other.inside.paths.now (paths_at us) (paths_at vs) c.self.invariant c.other.invariant
    ∙ (ap (λ ps. are_near ps c.other.inside.paths.now) c.self.view_is ∙ ap (are_near c.args.self.now) c.other.view_is))))
