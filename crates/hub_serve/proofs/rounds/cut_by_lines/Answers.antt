use Rattle.std.proofs.Common.{◌∙◌, List, subst, sym}
use Rattle.hub_text.specs.laws.Fails.{passed-up}
use Rattle.hub_cert.specs.Set.{Members}
use Rattle.hub_cert.specs.declared.fault.CheckFault.{CheckFault}
use Rattle.hub_rounds.specs.Rounds.{AreRounds}
use Rattle.hub_rounds.specs.Unverified.{IsRoundsFault}
use Rattle.hub_serve.specs.Rounds.{AreLinesAs, IsUncut}
use Rattle.hub_serve.proofs.ByRounds.{uncut}
use Rattle.hub_serve.proofs.rounds.cut_by_lines.Goals as goal

pub returns-in_err-rounds-clause-uncut : goal.returns-in_err-rounds-clause-uncut
returns-in_err-rounds-clause-uncut c = λ reading S ps rs lines.
    let e = c.in_err-rounds.field-0.0 in
    let es = c.as_slice-3.result.now in
    let refused = subst (λ (M : Members). IsRoundsFault M es e) (λ i. record { profiles = sym ps i; rules = sym rs i }) c.in_err-rounds.ensures.refused in
    let own = subst (λ (ls : List CheckFault). AreLinesAs reading S ls) (sym c.as_slice-3.ensures) lines in
    passed-up c.from_residual-in_err-rounds.result e (IsUncut reading S) c.from_residual-in_err-rounds.ensures.1 (uncut reading S es e own refused)

pub returns-clause-cut : goal.returns-clause-cut
returns-clause-cut c = λ reading S ps rs lines.
    let found = c.in_ok-rounds.rounds in
    let es = c.as_slice-3.result.now in
    let cut = subst (λ (M : Members). AreRounds M es found) (λ i. record { profiles = sym ps i; rules = sym rs i }) c.in_ok-rounds.ensures.rounds in
    let own = subst (λ (ls : List CheckFault). AreLinesAs reading S ls) (sym c.as_slice-4.ensures) lines in
    c.in_ok-cut_of.ensures reading S own (subst (λ (ls : List CheckFault). AreRounds S ls found) (c.as_slice-3.ensures ∙ sym c.as_slice-4.ensures) cut)
