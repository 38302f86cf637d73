use Rattle.hub_unison.specs.laws.Lines.{profile-written}
use Rattle.hub_unison.proofs.laws.profiles_are_written_in_their_lines.Goals as goal

pub returns : goal.returns
returns c = profile-written
