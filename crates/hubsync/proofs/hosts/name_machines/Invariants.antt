use Rattle.std.proofs.Common.{◌≡◌, drop}
use Rattle.hub_folder.specs.Told.{texts_in}
use Rattle.hubsync.specs.Bundled.{name_machines}
use Rattle.hubsync.proofs.hosts.name_machines.Given as goal

abbrev pub invariant-loop-operand : goal.invariant-loop-operand
invariant-loop-operand l = name_machines (texts_in (drop l.operand-index l.operands)) ≡ name_machines (texts_in l.operands)
