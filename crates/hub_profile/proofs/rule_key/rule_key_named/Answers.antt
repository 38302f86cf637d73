use Rattle.std.proofs.Common.{refl}
use Rattle.hub_profile.proofs.rule_key.rule_key_named.Goals as goal

pub returns : goal.returns
returns c = c.named.ensures refl
