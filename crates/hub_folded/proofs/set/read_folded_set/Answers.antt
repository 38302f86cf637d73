use Rattle.std.proofs.Common.{map, subst}
use Rattle.hub_folded.specs.InUnison.{member_of}
use Rattle.hub_folded.specs.Lines.{folded_rules}
use Rattle.hub_folded.specs.Read.{AreReadAsWritten}
use Rattle.hub_folded.proofs.Plain.{ok-weaker}
use Rattle.hub_folded.proofs.set.read_folded_set.Goals as goal

pub returns-clause-wide : goal.returns-clause-wide
returns-clause-wide c =
    ok-weaker c.read_set.result
    (λ rs read F Vs Rs some spelled same rules.
    c.readings_of_folded_lines_hold_in_unison.ensures F Vs Rs rs some spelled
    (subst (λ Ps. AreReadAsWritten Ps (folded_rules F (map member_of Vs) Rs) rs) same
    (subst (λ Ss. AreReadAsWritten c.args.folded Ss rs) rules read)))
    c.read_set.ensures.wide
