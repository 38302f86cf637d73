use Rattle.std.proofs.Common.{◌≡◌, ◌+◌, ◌≤◌, length, false}
use Rattle.std.specs.Io.KnownBytes.{Consumes}
use Rattle.hub_bundle.proofs.input.read_input.Given as goal

abbrev pub invariant-loop : goal.invariant-loop
invariant-loop g l = record {
  read : Consumes (g.R.Read.remaining l.initial.input.device) (g.R.Read.remaining l.input.device) l.bytes.items;
  none_empty : l.counter ≤ length l.bytes.items;
  unfailed : l.input.failed ≡ false;
  counted : l.input.reads ≡ l.initial.input.reads + l.counter;
  no_end : l.input.at_end ≡ l.initial.input.at_end;
}
