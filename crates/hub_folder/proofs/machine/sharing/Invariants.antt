use Rattle.std.proofs.Common.{◌≡◌, drop}
use Rattle.std.specs.List.{find}
use Rattle.hub_folder.specs.Machines.{share_machine}
use Rattle.hub_folder.specs.Told.{texts_in}
use Rattle.hub_folder.proofs.machine.sharing.Given as goal

abbrev pub invariant-loop-other : goal.invariant-loop-other
invariant-loop-other l =
    find (share_machine l.operand) (texts_in (drop l.other-index l.others)) ≡ find (share_machine l.operand) (texts_in l.others)
