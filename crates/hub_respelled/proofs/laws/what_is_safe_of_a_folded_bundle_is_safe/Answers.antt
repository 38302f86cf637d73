use Rattle.std.proofs.Common.{ap, subst, sym, ◌∙◌}
use Rattle.hub_folded.specs.Lines.{folded_rules, folded_set, some_fold}
use Rattle.hub_folded.specs.Table.{unicode}
use Rattle.hub_unison.specs.Rules.{KeepsRulesInUnison}
use Rattle.hub_unison.specs.Written.{AreWrittenAs}
use Rattle.hub_respelled.proofs.laws.what_is_safe_of_a_folded_bundle_is_safe.Goals as goal

pub returns-clause-clashes : goal.returns-clause-clashes
returns-clause-clashes c bundle text f Vs same by all =
    c.what_is_safe_in_unison_folded_is_safe.ensures.clashes unicode Vs (ap some_fold same ∙ f.some) by
    (λ Ws such. all Ws (subst (λ Ms. AreWrittenAs Ws (folded_set unicode Ms)) same such))

pub returns-clause-kept : goal.returns-clause-kept
returns-clause-kept c bundle text f Vs same by all =
    c.what_is_safe_in_unison_folded_is_safe.ensures.kept unicode Vs f.said.own.rules
    (ap some_fold same ∙ f.some) by
    (λ Ws such. subst (λ Ms. KeepsRulesInUnison Ws (folded_rules unicode Ms f.said.own.rules)) (sym same)
    (all Ws (subst (λ Ms. AreWrittenAs Ws (folded_set unicode Ms)) same such)))
