use Rattle.std.proofs.Common.{◌≡◌, length}
use Rattle.hub_hosts.specs.Folding.{folds_text}
use Rattle.hub_hosts.specs.Remotes.{machine_in}
use Rattle.hub_hosts.proofs.host.Hosts.folds_text.Given as goal

abbrev pub invariant-loop-line : goal.invariant-loop-line
invariant-loop-line l =
    folds_text l.self (machine_in l.machine) l.fn.text ≡ folds_text l.self (machine_in l.machine) l.lines

abbrev pub decreases-loop-line : goal.decreases-loop-line
decreases-loop-line l = length l.lines
