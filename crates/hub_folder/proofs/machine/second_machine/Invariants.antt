use Rattle.std.proofs.Common.{◌≡◌, drop}
use Rattle.hub_folder.specs.Machines as machines
use Rattle.hub_folder.specs.Told.{texts_in}
use Rattle.hub_folder.proofs.machine.second_machine.Given as goal

abbrev pub invariant-loop-operand : goal.invariant-loop-operand
invariant-loop-operand l =
    (l.seen ≡ l.operand-index)
    × (machines.second_machine (texts_in (drop l.operand-index l.operands)) ≡ machines.second_machine (texts_in l.operands))
