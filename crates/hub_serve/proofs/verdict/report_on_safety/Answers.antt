use Rattle.std.proofs.Common.{subst}
use Rattle.hub_cert.specs.Set.{IsSafeSet, Members}
use Rattle.hub_serve.proofs.verdict.report_on_safety.Goals as goal

pub returns-clause-told : goal.returns-clause-told
returns-clause-told g c = λ cs.
    let v = c.in_ok-check_with_progress.ensures in
    c.report_on_archives.ensures.told (subst (λ (M : Members). IsSafeSet M) v.set v.safe) cs
