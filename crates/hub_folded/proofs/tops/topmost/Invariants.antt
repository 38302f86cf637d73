use Rattle.std.proofs.Common.{◌≡◌, [], take}
use Rattle.std.specs.List.{fold}
use Rattle.hub_unison.specs.ReadingOf as reading
use Rattle.hub_folded.proofs.tops.topmost.Given as goal

abbrev pub invariant-loop-path : goal.invariant-loop-path
invariant-loop-path l = l.tops ≡ fold (reading.with_top l.paths) [] (take l.path-index l.paths)
