use Rattle.std.proofs.Common.{◌≡◌, [], take}
use Rattle.std.specs.List.{fold}
use Rattle.hub_unison.specs.ReadingOf as reading
use Rattle.hub_unison.proofs.tops.topmost.Given as goal

abbrev pub invariant-loop-cut : goal.invariant-loop-cut
invariant-loop-cut l = l.tops ≡ fold (reading.with_top l.cuts) [] (take l.cut-index l.cuts)
