use Rattle.std.proofs.Common.{◌∙◌, ap, refl}
use Rattle.std.specs.Result.{result_ok}
use Rattle.hub_glob.specs.contracts.path_spec.PathSpecPartialEq.TheImpl as tested
use Rattle.hub_glob.specs.contracts.path_spec.PathSpecExact.TheImpl.Laws as tested_laws
use Rattle.hub_profile.specs.Parts.{some_passes}
use Rattle.hub_unison.proofs.laws.short_specifications_are_read_back.Goals as goal

pub returns : goal.returns
returns c = λ s readable short.
    ap (λ r. some_passes (λ t. tested.eq-value.it t s) (result_ok r))
    (c.readable_specifications_are_read_back.ensures s readable short)
    ∙ (tested_laws.exact-law s s).1 refl
