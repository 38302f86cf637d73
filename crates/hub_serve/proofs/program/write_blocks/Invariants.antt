use Rattle.std.proofs.Common.{◌≡◌, false, take}
use Rattle.std.specs.Io.KnownBytes.{Appends}
use Rattle.std.specs.List.{flat_map}
use Rattle.hub_serve.proofs.Parts.{block_bytes}
use Rattle.hub_serve.proofs.program.write_blocks.Given as goal

abbrev pub invariant-loop-block : goal.invariant-loop-block
invariant-loop-block g l =
    Appends (g.W.Write.contents l.fn.output.device) (g.W.Write.contents l.output.device) (flat_map block_bytes (take l.block-index l.blocks))
    × (l.output.failed ≡ false)
