use Rattle.std.proofs.Common.{◌≡◌, drop, length}
use Rattle.hub_schedule.specs.Table.{AllWouldAsk, AreTreeNumbers, Taken}
use Rattle.hub_schedule.proofs.turn.take_turns.Given as goal

abbrev pub invariant-loop-number : goal.invariant-loop-number
invariant-loop-number l = record {
  taken : Taken l.initial.slots.items l.initial.trees.items l.schedule l.slots.items l.trees.items (drop l.number-index l.schedule);
  placed : AreTreeNumbers l.slots.items l.trees.items;
  count : length l.slots.items ≡ length l.initial.slots.items;
  more : AllWouldAsk l.initial.slots.items → AllWouldAsk l.slots.items;
}
