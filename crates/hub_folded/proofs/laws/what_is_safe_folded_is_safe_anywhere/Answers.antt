use Rattle.hub_folded.proofs.Anywhere.{safe-anywhere}
use Rattle.hub_folded.proofs.laws.what_is_safe_folded_is_safe_anywhere.Goals as goal

pub returns : goal.returns
returns c = safe-anywhere
