use Rattle.hub_glob.proofs.Roundtrip.{reading_gives_readable}
use Rattle.hub_glob.proofs.laws.read_specifications_are_readable.Goals as goal

pub returns : goal.returns
returns c = λ t s h e. reading_gives_readable t s h e
