use Rattle.hub_archives.proofs.Keeping.{held_as_it_stands}
use Rattle.hub_archives.proofs.held.held_by.Goals as goal

pub returns : goal.returns
returns c =
    held_as_it_stands c.args.profile c.in_ok-reading.reading c.args.folders.now c.held_in.result
    c.in_ok-reading.ensures.value c.in_ok-reading.ensures.wide c.held_in.ensures
