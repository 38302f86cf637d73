use Rattle.std.proofs.Common.{◌-◌, length}
use Rattle.hub_job.proofs.Stacks.{IsAmong}
use Rattle.hub_job.proofs.waiting.index_of.Given as goal

abbrev pub invariant-loop-i : goal.invariant-loop-i
invariant-loop-i l = IsAmong l.stack (length l.stack - l.i) l.path
