use Rattle.std.proofs.Common.{◌≡◌, length}
use Rattle.hub_rounds.specs.Numbered.{AreNumbersPlaced, AreNumbersSplit, AreRoundsUsed}
use Rattle.hub_rounds.proofs.placing.place_each.Given as goal

abbrev pub invariant-loop-number : goal.invariant-loop-number
invariant-loop-number l = record {
  all : length l.placings.items ≡ l.number;
  told : AreNumbersPlaced l.lines (length l.seen.items) l.placings.items;
  split : AreNumbersSplit l.lines l.placings.items;
  used : AreRoundsUsed (length l.seen.items) l.placings.items;
}
