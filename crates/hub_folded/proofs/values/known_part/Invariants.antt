use Rattle.std.proofs.Common.{◌≡◌, ◌++◌, drop}
use Rattle.hub_folded.specs.Lines as lines
use Rattle.hub_folded.specs.Table.{unicode}
use Rattle.hub_folded.proofs.values.known_part.Given as goal

abbrev pub invariant-loop-i : goal.invariant-loop-i
invariant-loop-i l =
    l.part ++ lines.known_part unicode (drop l.i l.path) ≡ lines.known_part unicode l.path
