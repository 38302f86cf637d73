use Rattle.std.proofs.Common.{◌≡◌, ◌++◌}
use Rattle.hub_state.specs.View.{by_text}
use Rattle.hub_state.proofs.state.copies_of_replicas.Given as goal

abbrev pub invariant-loop-text : goal.invariant-loop-text
invariant-loop-text l = by_text l.copies.entries ++ by_text l.text-iterator ≡ by_text l.replicas.entries
