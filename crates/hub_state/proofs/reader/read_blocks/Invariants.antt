use Rattle.std.proofs.Common.{◌≡◌, ℕ, ◌+◌, ◌*◌, ◌≤◌, List, length, false}
use Rattle.std.specs.Io.KnownBytes.{Consumes}
use Rattle.std.specs.Prelude.{OnOk}
use Rattle.hub_state.specs.Blocks.{Stands, IsWithin}
use Rattle.hub_state.proofs.reader.read_blocks.Given as goal

abbrev pub invariant-loop : goal.invariant-loop
invariant-loop g l =
    (read : List ℕ) × Stands read l.prefix l.taken × Consumes (g.R.Read.remaining l.initial.input.device) (g.R.Read.remaining l.input.device) read
    × (l.counter ≤ length read) × OnOk l.taken (IsWithin l.prefix (1 + 4096 * l.counter)) × (l.input.failed ≡ false)
    × (l.input.reads ≡ l.initial.input.reads + l.counter) × (l.input.at_end ≡ l.initial.input.at_end)
