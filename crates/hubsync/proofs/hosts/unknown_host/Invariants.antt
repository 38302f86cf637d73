use Rattle.std.proofs.Common.{◌≡◌, drop}
use Rattle.std.specs.List.{find}
use Rattle.hub_folder.specs.Machines.{machine_of}
use Rattle.hub_folder.specs.Told.{texts_in}
use Rattle.hubsync.specs.Bundled.{lacks_row, unknown_host}
use Rattle.hubsync.specs.Named.{table_in}
use Rattle.hubsync.proofs.hosts.unknown_host.Given as goal

abbrev pub invariant-loop-operand : goal.invariant-loop-operand
invariant-loop-operand l =
    find (λ o. lacks_row l.others (table_in l.hosts) (texts_in l.operands) (machine_of o)) (texts_in (drop l.operand-index l.operands))
    ≡ unknown_host (table_in l.hosts) (texts_in l.operands)
