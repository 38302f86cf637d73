use Rattle.hub_apart.proofs.UnsafeParts.{shown}
use Rattle.hub_apart.proofs.laws.lines_show_unsafe_parts.Goals as goal

pub returns : goal.returns
returns c = shown c.faults_say_what_is_unsafe.ensures.disproved
