use Rattle.std.proofs.Common.{◌≡◌, ◌++◌, map, take}
use Rattle.hub_nested.proofs.below.each_below.Given as goal

abbrev pub invariant-loop-path : goal.invariant-loop-path
invariant-loop-path l = l.each ≡ map (λ v. l.front ++ v) (take l.path-index l.paths)
