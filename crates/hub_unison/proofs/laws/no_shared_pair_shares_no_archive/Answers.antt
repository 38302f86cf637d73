use Rattle.hub_unison.specs.laws.Shared.{none-shared}
use Rattle.hub_unison.proofs.laws.no_shared_pair_shares_no_archive.Goals as goal

pub returns : goal.returns
returns c = none-shared
