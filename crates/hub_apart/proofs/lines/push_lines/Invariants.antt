use Rattle.std.proofs.Common.{◌≡◌, ◌++◌, map}
use Rattle.hub_apart.specs.ApartLines.{line_among}
use Rattle.hub_apart.proofs.lines.push_lines.Given as goal

abbrev pub invariant-loop-line : goal.invariant-loop-line
invariant-loop-line l = l.lines.items ≡ l.initial.lines.items ++ map (line_among l.numbers.first l.numbers.second) l.yielded
