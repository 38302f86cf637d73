use Rattle.hub_include.specs.Files.{known_of}
use Rattle.hub_folder.proofs.shelf.Place.tell.Goals as goal

pub returns-in-Err-clause-err : goal.returns-in-Err-clause-err
returns-in-Err-clause-err g c = c.untaken.ensures (known_of c.args.shelf.now) c.in-Err.ensures.err
