use Rattle.std.proofs.Common.{map, subst, sym}
use Rattle.hub_profile.specs.declared.rule.Rule.{Rule}
use Rattle.hub_unison.specs.Rules.{KeepsRulesInUnison}
use Rattle.hub_unison.specs.Written.{AreWrittenAs}
use Rattle.hub_folded.specs.InUnison.{member_of, norm_of}
use Rattle.hub_folded.proofs.NormOf.{norm-met}
use Rattle.hub_folded.proofs.Plain.{rules-folded, set-folded}
use Rattle.hub_folded.proofs.Safe.{keeps-together, safe-together}
use Rattle.hub_folded.proofs.laws.what_is_safe_in_unison_folded_is_safe.Goals as goal

pub returns-clause-clashes : goal.returns-clause-clashes
returns-clause-clashes c F Vs some by all =
    safe-together F Vs by
    (λ Ws such. all Ws (subst (AreWrittenAs Ws) (sym (set-folded F (map member_of Vs) some)) such))
    (norm_of F) (norm-met F)

pub returns-clause-kept : goal.returns-clause-kept
returns-clause-kept c F Vs Rs some by all =
    keeps-together F Vs by Rs
    (λ Ws such. subst (KeepsRulesInUnison Ws) (rules-folded F (map member_of Vs) Rs some)
    (all Ws (subst (AreWrittenAs Ws) (sym (set-folded F (map member_of Vs) some)) such)))
