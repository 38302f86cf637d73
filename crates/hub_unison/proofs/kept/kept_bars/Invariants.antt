use Rattle.std.proofs.Common.{◌≡◌, take}
use Rattle.hub_unison.specs.ReadingOf as reading
use Rattle.hub_unison.proofs.kept.kept_bars.Given as goal

abbrev pub invariant-loop-bar : goal.invariant-loop-bar
invariant-loop-bar l = l.kept ≡ reading.kept_bars (take l.bar-index l.bars)
