use Rattle.std.proofs.Common.{◌∙◌, refl, sym}
use Rattle.hub_rounds.proofs.LineLists.{pair-noted}
use Rattle.hub_rounds.proofs.clique.clash_surely.Goals as goal

pub returns-then-clash : goal.returns-then-clash
returns-then-clash c = (λ t. c.clash.ensures c.if-clash.true, λ h. refl)

pub returns : goal.returns
returns c =
    let both = pair-noted c.args.lines.now c.args.own.now c.args.one c.args.other c.requires in
    (λ t. both.0 (sym c.are_named.ensures ∙ t), λ h. c.are_named.ensures ∙ both.1 h)
