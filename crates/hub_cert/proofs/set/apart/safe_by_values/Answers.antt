use Rattle.std.proofs.Common.{◌∙◌, sym, subst}
use Rattle.hub_cert.specs.Goals.{AllSilent}
use Rattle.hub_cert.proofs.KeptValues.{all-apart}
use Rattle.hub_cert.proofs.set.apart.safe_by_values.Goals as goal

pub silent_set-requires : goal.silent_set-requires
silent_set-requires c =
    subst AllSilent (sym c.set.ensures)
    (all-apart c.args.nearness.now c.args.goals.now c.kept_values_rule_out.ensures c.requires (sym c.are_apart.ensures ∙ c.if-not-are_apart.false))
