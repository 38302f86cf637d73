use Rattle.std.proofs.Common.{string_bytes, arith}
use Rattle.hub_folded.specs.Table.{shown}
use Rattle.hub_folded.proofs.Texts.{flat-written}
use Rattle.hub_folded.proofs.fold.push_image.Goals as goal

pub loop-c-preserved : goal.loop-c-preserved
loop-c-preserved c =
    flat-written shown c.args.image.now c.loop-c.c-index c.c-item.result (string_bytes c.args.text.now) (string_bytes c.loop-c.text) (string_bytes c.push_shown.new.text)
    (omega arith) c.c-item.is c.loop-c.invariant c.in_ok-push_shown.ensures
