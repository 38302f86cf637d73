use Rattle.std.proofs.Common.{◌≡◌}
use Rattle.hub_apart.specs.ApartLines.{Adds}
use Rattle.hub_apart.specs.UnisonLines.{AreLinesOfEach}
use Rattle.hub_apart.proofs.beside.search_each_alone.Given as goal

abbrev pub invariant-loop-profile : goal.invariant-loop-profile
invariant-loop-profile l = record {
  all : l.all.items ≡ l.yielded;
  rules : l.rules ≡ l.fn.rules;
  lines : Adds (AreLinesOfEach l.yielded l.fn.rules) l.initial.lines.items l.lines.items;
}
