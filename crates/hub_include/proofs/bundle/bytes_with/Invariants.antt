use Rattle.std.proofs.Common.{◌≡◌, ◌+◌, ◌≤◌, drop, map}
use Rattle.hub_include.specs.Bundle as bundle
use Rattle.hub_include.specs.Includes.{of_line}
use Rattle.hub_include.proofs.bundle.bytes_with.Given as goal

abbrev pub invariant-loop-line : goal.invariant-loop-line
invariant-loop-line l = record {
  rest : bundle.bytes_with l.limit l.sum (map of_line (drop l.line-index l.lines))
      ≡ bundle.bytes_with l.limit l.fn.bytes (map of_line l.lines);
  within : l.sum ≤ l.limit;
}
