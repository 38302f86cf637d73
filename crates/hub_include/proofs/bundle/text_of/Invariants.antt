use Rattle.std.proofs.Common.{◌≡◌, map, take}
use Rattle.hub_include.specs.Bundle as bundle
use Rattle.hub_include.specs.Includes.{of_line}
use Rattle.hub_include.proofs.bundle.text_of.Given as goal

abbrev pub invariant-loop-line : goal.invariant-loop-line
invariant-loop-line l = l.text.items ≡ bundle.text_of (map of_line (take l.line-index l.lines))
