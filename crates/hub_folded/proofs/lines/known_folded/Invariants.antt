use Rattle.std.proofs.Common.{◌≡◌, take}
use Rattle.hub_folded.specs.Lines as lines
use Rattle.hub_folded.specs.Table.{unicode}
use Rattle.hub_folded.proofs.lines.known_folded.Given as goal

abbrev pub invariant-loop-spec : goal.invariant-loop-spec
invariant-loop-spec l = l.all ≡ lines.folded_specs unicode (take l.spec-index l.specs)
