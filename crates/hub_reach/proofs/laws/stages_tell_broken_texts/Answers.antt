use Rattle.hub_reach.proofs.Broken.{broken-alike, shape-broken}
use Rattle.hub_reach.proofs.laws.stages_tell_broken_texts.Goals as goal

pub returns-clause-stage : goal.returns-clause-stage
returns-clause-stage c = λ P t. shape-broken t

pub returns-clause-alike : goal.returns-clause-alike
returns-clause-alike c = broken-alike
