use Rattle.std.proofs.Common.{◌∙◌, ap, sym}
use Rattle.hub_profile.specs.Parts.{some_passes}
use Rattle.hub_cert.specs.Apart.{is_apart}
use Rattle.hub_cert.proofs.laws.apart_goals_have_inductive_lists.Goals as goal

pub returns : goal.returns
returns c = λ S g a apart at.
    c.silent_goals_have_inductive_lists.ensures a (λ t. c.kept_values_rule_out.ensures a t (sym (ap (some_passes is_apart) at) ∙ apart))
