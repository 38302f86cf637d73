use Rattle.std.proofs.Common.{◌≡◌, ◌≤◌, ℕ, List, Some, length, sym, subst}
use Rattle.std.specs.Prelude.{slice_get}
use Rattle.hub_text.specs.laws.Fails.{passed-up}
use Rattle.hub_profile.specs.Parts.{Parts, IsProfile}
use Rattle.hub_cert.specs.Refused.{IsRefused}
use Rattle.hub_profile.specs.declared.rule.Rule.{Rule}
use Rattle.hub_profile.specs.declared.rules.TheConstants.{RULES}
use Rattle.hub_cert.proofs.SetFacts.{too-much}
use Rattle.hub_cert.proofs.set.refusals.alphabet_for.Goals as goal

pub returns-in_err-check_names-clause-err : goal.returns-in_err-check_names-clause-err
returns-in_err-check_names-clause-err c = λ S ps rs.
    passed-up c.from_residual.result c.in_err-check_names.field-0.0 (IsRefused S) c.from_residual.ensures.1 (c.in_err-check_names.ensures.err S ps)

pub returns-in-Ok-clause-ok : goal.returns-in-Ok-clause-ok
returns-in-Ok-clause-ok c = λ S ps rs.
    let named = c.in_ok-check_names.ensures.ok S ps in
    record {
      few = named.0;
      few_rules = subst (λ (Rs : List Rule). length Rs ≤ RULES) (sym rs) c.requires;
      names = named.1;
      apart = c.in_ok-check_roots.ensures.apart S ps rs;
      profiles = subst (λ (Ps : List Parts). (i : ℕ) (P : Parts) → slice_get Ps i ≡ Some P → IsProfile P) (sym ps) c.in_ok-check_roots.ensures.valid;
      alphabet = c.in-Ok.ensures.value S ps rs;
      mentioned = c.in-Ok.ensures.mentioned S ps rs;
      spots = c.in-Ok.ensures.few S ps rs;
    }

pub returns-in-Err-clause-err : goal.returns-in-Err-clause-err
returns-in-Err-clause-err c = λ S ps rs.
    subst (IsRefused S) (sym c.fault_of.ensures)
    (too-much S c.in-Err.fault (c.in_ok-check_names.ensures.ok S ps) (c.in_ok-check_roots.ensures.apart S ps rs) (c.in-Err.ensures.err S ps rs))
