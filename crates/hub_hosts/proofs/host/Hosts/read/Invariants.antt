use Rattle.std.proofs.Common.{◌≡◌, ◌+◌, ◌≤◌, length}
use Rattle.hub_text.specs.Lines.{lines_of}
use Rattle.hub_hosts.specs.Table as table
use Rattle.hub_hosts.proofs.host.Hosts.read.Given as goal

abbrev pub invariant-loop-line : goal.invariant-loop-line
invariant-loop-line l = record {
  told : table.add_lines l.number l.rows (lines_of l.rest) ≡ table.rows_of l.fn.bytes;
  fewer : l.number + length l.rest ≤ length l.fn.bytes + 1;
}

abbrev pub decreases-loop-line : goal.decreases-loop-line
decreases-loop-line l = length l.rest
