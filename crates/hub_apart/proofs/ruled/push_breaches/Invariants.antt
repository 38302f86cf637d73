use Rattle.std.proofs.Common.{◌≡◌, ◌++◌, map}
use Rattle.hub_apart.specs.NestedLines.{counted_breach}
use Rattle.hub_apart.proofs.ruled.push_breaches.Given as goal

abbrev pub invariant-loop-line : goal.invariant-loop-line
invariant-loop-line l =
    l.lines.items ≡ l.initial.lines.items ++ map (counted_breach l.names l.numbers.first l.numbers.second) l.yielded
