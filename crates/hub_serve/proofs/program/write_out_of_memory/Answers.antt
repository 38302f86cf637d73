use Rattle.std.proofs.Common.{subst}
use Rattle.hub_serve.specs.Serves.{WritesText}
use Rattle.hub_serve.proofs.program.write_out_of_memory.Goals as goal

pub returns : goal.returns
returns g c =
    let old = g.W.Write.contents c.args.output.now.device in
    let new = g.W.Write.contents c.write_line.new.output.device in
    subst (λ t. WritesText old new t 2 c.write_line.new.output.failed c.write_line.result) c.as_bytes.ensures.value c.write_line.ensures
