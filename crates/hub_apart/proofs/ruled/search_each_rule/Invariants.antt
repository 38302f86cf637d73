use Rattle.hub_apart.specs.ApartLines.{Adds}
use Rattle.hub_apart.specs.NestedLines.{AreLinesOfFirstRules}
use Rattle.hub_apart.proofs.ruled.search_each_rule.Given as goal

abbrev pub invariant-loop-k : goal.invariant-loop-k
invariant-loop-k l = Adds (AreLinesOfFirstRules l.profile l.rules l.number l.k) l.initial.lines.items l.lines.items
