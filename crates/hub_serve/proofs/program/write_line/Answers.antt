use Rattle.std.specs.Result.{is_err}
use Rattle.hub_serve.specs.laws.Writing.{unfailed, given-ok, text-written}
use Rattle.hub_serve.proofs.program.write_line.Goals as goal

pub returns : goal.returns
returns g c =
    let old = g.W.Write.contents c.args.output.now.device in
    let mid = g.W.Write.contents c.write_all.new.self.device in
    let new = g.W.Write.contents c.flush.new.self.device in
    let all = given-ok c.write_all.result _ c.if-is_err.ensures.value c.write_all.ensures.bytes in
    let written = unfailed c.args.output.now.failed (is_err c.write_all.result) c.write_all.new.self.failed c.requires c.if-is_err.ensures.value c.write_all.ensures.failed in
    text-written old mid new c.args.line.now c.args.status c.flush.new.self.failed all c.flush.ensures.bytes
    (unfailed c.write_all.new.self.failed (is_err c.flush.result) c.flush.new.self.failed written c.if-is_err-2.ensures.value c.flush.ensures.failed)
