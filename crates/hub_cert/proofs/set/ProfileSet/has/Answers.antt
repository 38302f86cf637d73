use Rattle.std.proofs.Common.{◌∙◌, ap, sym}
use Rattle.hub_cert.specs.Goals.{is_goal}
use Rattle.hub_cert.specs.Set.{Members}
use Rattle.hub_cert.proofs.GoalList.{listed-by}
use Rattle.hub_cert.proofs.set.ProfileSet.has.Goals as goal

pub returns-in-Clash-clause-member : goal.returns-in-Clash-clause-member
returns-in-Clash-clause-member c =
    let S = c.args.self.now in
    let own = ap (λ (m : Members). m.profiles) (sym c.self.view_is) ∙ sym c.as_slice.ensures in
    listed-by S c.args.goal c.has_clash.result (c.has_clash.ensures S own ∙ ap (is_goal S) (sym c.in-Clash.is))

pub returns-in-Breach-clause-member : goal.returns-in-Breach-clause-member
returns-in-Breach-clause-member c =
    let S = c.args.self.now in
    let own = ap (λ (m : Members). m.profiles) (sym c.self.view_is) ∙ sym c.as_slice-in-Breach.ensures in
    let rules = ap (λ (m : Members). m.rules) (sym c.self.view_is) ∙ sym c.as_slice-in-Breach-2.ensures.value in
    listed-by S c.args.goal c.has_breach.result (c.has_breach.ensures S own rules ∙ ap (is_goal S) (sym c.in-Breach.is))
