use Rattle.std.proofs.Common.{◌+◌, ◌-◌, ◌*◌, length}
use Rattle.hub_tree.proofs.node.+set.Given as goal

-- The names that are left, and which of the three functions is at the first of them.
abbrev pub decreases-put_below : goal.decreases-put_below
decreases-put_below l = 3 * (length l.path.now - l.depth) + 2

abbrev pub decreases-put_shared : goal.decreases-put_shared
decreases-put_shared l = 3 * (length l.path.now - l.depth) + 1

abbrev pub decreases-put_at : goal.decreases-put_at
decreases-put_at l = 3 * (length l.path.now - l.depth)
