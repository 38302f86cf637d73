use Rattle.hub_preferences.specs.laws.Spelling.{respelled-read}
use Rattle.hub_preferences.proofs.laws.the_plain_reader_reads_the_other_spelling.Goals as goal

pub returns : goal.returns
returns c = respelled-read
