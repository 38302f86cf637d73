use Rattle.hub_folder.specs.Taken.{Agrees}
use Rattle.hub_include.specs.Files.{known_of}
use Rattle.hub_folder.proofs.shelf.Place.fill_all.Given as goal

abbrev pub invariant-loop-name : goal.invariant-loop-name
invariant-loop-name g l = Agrees (g.F.FileReader.reads l.self.reader.now) l.self.path.now (known_of l.shelf)
