use Rattle.std.proofs.Common.{◌≡◌, length}
use Rattle.hub_apart.specs.ApartLines.{Adds, AreLinesWithEach}
use Rattle.hub_apart.proofs.searched.search_with_each.Given as goal

abbrev pub invariant-loop-profile : goal.invariant-loop-profile
invariant-loop-profile l = record {
  all : l.all.items ≡ l.yielded;
  last : l.last ≡ l.fn.last;
  lines : Adds (AreLinesWithEach l.yielded l.fn.last (length l.fn.before.items)) l.initial.lines.items l.lines.items;
}
