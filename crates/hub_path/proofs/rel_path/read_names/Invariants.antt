use Rattle.std.proofs.Common.{length}
use Rattle.std.specs.Str.{chars}
use Rattle.hub_path.specs.Path.{path_of}
use Rattle.hub_path.specs.laws.ReadNames.{ReadSoFar}
use Rattle.hub_path.proofs.rel_path.read_names.Given as goal

abbrev pub invariant-loop-part : goal.invariant-loop-part
invariant-loop-part l = ReadSoFar (path_of (chars l.text)) l.names.items (length l.yielded)
