use Rattle.std.proofs.Common.{◌≡◌, T, vec_len}
use Rattle.hub_tree.specs.Levels.{left_in, all_ascend}
use Rattle.hub_tree.proofs.entries.next_entry.Given as goal

abbrev pub invariant-loop-level : goal.invariant-loop-level
invariant-loop-level l = (left_in l.levels.items ≡ left_in l.fn.levels.items) × T (all_ascend l.levels.items)

abbrev pub decreases-loop-level : goal.decreases-loop-level
decreases-loop-level l = vec_len l.levels
