use Rattle.std.proofs.Common.{◌≡◌, drop}
use Rattle.hub_folder.specs.Told.{texts_in}
use Rattle.hubsync.specs.Bundled.{is_named}
use Rattle.hubsync.proofs.hosts.is_named.Given as goal

abbrev pub invariant-loop-operand : goal.invariant-loop-operand
invariant-loop-operand l =
    is_named (texts_in (drop l.operand-index l.operands)) l.row ≡ is_named (texts_in l.operands) l.row
