use Rattle.std.proofs.Common.{◌≡◌, ◌++◌, map}
use Rattle.hub_apart.specs.NestedLines.{counted_line}
use Rattle.hub_apart.proofs.nested.push_counted.Given as goal

abbrev pub invariant-loop-line : goal.invariant-loop-line
invariant-loop-line l =
    l.lines.items ≡ l.initial.lines.items ++ map (counted_line l.below.first l.below.second l.numbers.first l.numbers.second) l.yielded
