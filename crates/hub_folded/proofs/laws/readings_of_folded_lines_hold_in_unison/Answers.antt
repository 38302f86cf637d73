use Rattle.std.proofs.Common.{map, subst}
use Rattle.hub_folded.specs.InUnison.{member_of}
use Rattle.hub_folded.specs.Lines.{folded_set, fold_rule}
use Rattle.hub_folded.specs.Read.{AreReadAsWritten}
use Rattle.hub_folded.proofs.Plain.{rules-folded, set-folded}
use Rattle.hub_folded.proofs.Safe.{read-folded}
use Rattle.hub_folded.proofs.laws.readings_of_folded_lines_hold_in_unison.Goals as goal

pub returns : goal.returns
returns c F Vs Rs Cs some spelled read =
    read-folded F Vs Rs Cs spelled
    (subst (λ Ps. AreReadAsWritten Ps (map (fold_rule F) Rs) Cs) (set-folded F (map member_of Vs) some)
    (subst (λ Ss. AreReadAsWritten (folded_set F (map member_of Vs)) Ss Cs)
    (rules-folded F (map member_of Vs) Rs some) read))
