use Rattle.std.proofs.Common.{length, string_bytes}
use Rattle.std.specs.Str.{chars}
use Rattle.hub_path.specs.Path.{path_of}
use Rattle.hub_preferences.proofs.SpelledNames.{SoFar}
use Rattle.hub_preferences.proofs.spelling.names_of.Given as goal

abbrev pub invariant-loop-part : goal.invariant-loop-part
invariant-loop-part l = SoFar (path_of (chars l.value)) (length l.yielded) (string_bytes l.names)
