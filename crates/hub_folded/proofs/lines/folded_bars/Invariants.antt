use Rattle.std.proofs.Common.{◌≡◌, take}
use Rattle.hub_folded.specs.Lines as lines
use Rattle.hub_folded.specs.Table.{unicode}
use Rattle.hub_folded.proofs.lines.folded_bars.Given as goal

abbrev pub invariant-loop-bar : goal.invariant-loop-bar
invariant-loop-bar l = l.all ≡ lines.folded_bars unicode (take l.bar-index l.bars)
