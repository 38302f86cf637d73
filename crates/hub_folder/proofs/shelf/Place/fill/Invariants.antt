use Rattle.hub_folder.specs.Taken.{Agrees, AreLookedFor, KeepsKnown}
use Rattle.hub_include.specs.Files.{known_of}
use Rattle.hub_folder.proofs.shelf.Place.fill.Given as goal

abbrev pub invariant-loop : goal.invariant-loop
invariant-loop g l = record {
  agrees : Agrees (g.F.FileReader.reads l.self.reader.now) l.self.path.now (known_of l.folder);
  keeps : KeepsKnown (known_of l.fn.folder) (known_of l.folder);
  looked : AreLookedFor (known_of l.folder) l.counter;
}
