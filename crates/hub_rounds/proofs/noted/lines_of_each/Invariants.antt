use Rattle.std.proofs.Common.{◌≡◌, length}
use Rattle.hub_rounds.proofs.LineLists.{AreNotedBefore}
use Rattle.hub_rounds.proofs.noted.lines_of_each.Given as goal

abbrev pub invariant-loop-line : goal.invariant-loop-line
invariant-loop-line l = record {
  long : length l.lists.items ≡ l.profiles;
  before : AreNotedBefore l.lines l.lists.items l.line;
}
