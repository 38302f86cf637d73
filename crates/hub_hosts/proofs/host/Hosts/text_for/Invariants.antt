use Rattle.std.proofs.Common.{◌≡◌, ◌++◌, length}
use Rattle.hub_hosts.specs.Profiles.{text_for}
use Rattle.hub_hosts.specs.Remotes.{machine_in}
use Rattle.hub_hosts.proofs.host.Hosts.text_for.Given as goal

abbrev pub invariant-loop-line : goal.invariant-loop-line
invariant-loop-line l =
    text_for l.self (machine_in l.machine) l.fn.text ≡ l.changed.items ++ text_for l.self (machine_in l.machine) l.lines

abbrev pub decreases-loop-line : goal.decreases-loop-line
decreases-loop-line l = length l.lines
