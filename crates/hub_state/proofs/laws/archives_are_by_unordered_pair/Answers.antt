use Rattle.std.proofs.Common.{ap}
use Rattle.std.specs.FinMap as fin
use Rattle.hub_state.specs.laws.RootTexts.{pair_turned, archive_put}
use Rattle.hub_state.proofs.laws.archives_are_by_unordered_pair.Goals as goal

pub returns-clause-turned : goal.returns-clause-turned
returns-clause-turned c = λ S r s. ap (fin.get S.archives) (pair_turned r s)

pub returns-clause-put : goal.returns-clause-put
returns-clause-put c = archive_put
