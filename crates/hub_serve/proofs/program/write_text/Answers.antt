use Rattle.std.proofs.Common.{◌∙◌, sym}
use Rattle.std.specs.Result.{is_err}
use Rattle.hub_report.specs.Blocks.{bytes_in}
use Rattle.hub_serve.specs.laws.Writing.{unfailed, given-ok, text-written}
use Rattle.hub_serve.proofs.program.write_text.Goals as goal

pub returns : goal.returns
returns g c =
    let old = g.W.Write.contents c.args.output.now.device in
    let mid = g.W.Write.contents c.write_blocks.new.output.device in
    let new = g.W.Write.contents c.flush.new.self.device in
    let all = given-ok c.write_blocks.result _ c.if-is_err.ensures.value c.write_blocks.ensures.bytes in
    let written = c.write_blocks.ensures.failed ∙ sym c.if-is_err.ensures.value in
    text-written old mid new (bytes_in c.args.text.now) c.args.status c.flush.new.self.failed all c.flush.ensures.bytes
    (unfailed c.write_blocks.new.output.failed (is_err c.flush.result) c.flush.new.self.failed written c.if-is_err-2.ensures.value c.flush.ensures.failed)
