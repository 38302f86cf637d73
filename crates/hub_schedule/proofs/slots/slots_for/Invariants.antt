use Rattle.std.proofs.Common.{◌≡◌, length}
use Rattle.hub_schedule.proofs.Opened.{AreOpened}
use Rattle.hub_schedule.proofs.slots.slots_for.Given as goal

abbrev pub invariant-loop-profile : goal.invariant-loop-profile
invariant-loop-profile l = record {
  opened : AreOpened l.state l.profiles l.slots.items l.trees.items;
  count : length l.slots.items ≡ l.profile-index;
}
