use Rattle.std.proofs.Common.{◌≡◌, ◌++◌, drop}
use Rattle.hub_starter.specs.Waves.{pairs_in}
use Rattle.hub_starter.proofs.waves.pairs_of.Given as goal

abbrev pub invariant-loop-line : goal.invariant-loop-line
invariant-loop-line l = l.pairs.items ++ pairs_in (drop l.line-index l.lines) ≡ pairs_in l.lines
