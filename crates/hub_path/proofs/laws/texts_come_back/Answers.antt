use Rattle.hub_path.specs.laws.General.{text_of-read, text_of-root_read, root_read-slash}
use Rattle.hub_path.proofs.laws.texts_come_back.Goals as goal

pub returns-clause-path : goal.returns-clause-path
returns-clause-path c = text_of-read

pub returns-clause-root : goal.returns-clause-root
returns-clause-root c = λ cs r h. (root_read-slash cs r h, text_of-root_read cs r h)
