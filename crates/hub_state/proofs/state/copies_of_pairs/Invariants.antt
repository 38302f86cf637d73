use Rattle.std.proofs.Common.{◌≡◌, ◌++◌}
use Rattle.hub_state.specs.View.{by_two}
use Rattle.hub_state.proofs.state.copies_of_pairs.Given as goal

abbrev pub invariant-loop-text : goal.invariant-loop-text
invariant-loop-text l = by_two l.copies.entries ++ by_two l.text-iterator ≡ by_two l.pairs.entries
