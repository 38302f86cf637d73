use Rattle.std.proofs.Common.{length, refl, subst, sym}
use Rattle.std.proofs.lemmas.Option.{slice_get_past, slice_get_read}
use Rattle.hubsync.specs.Bundled.{WritesFault, file_of, reason_in}
use Rattle.hubsync.proofs.bundled.write_part_fault.Goals as goal

pub returns-in-Some : goal.returns-in-Some
returns-in-Some g c =
    let old = g.W.Write.contents c.args.output.now.device.device in
    let new = g.W.Write.contents c.write_why.new.output.device.device in
    let parts = c.args.parts.now in
    let found = slice_get_read parts (length parts) c.args.i c.in-Some.part.now refl c.in-Some.ensures.lookup.3.0 c.in-Some.ensures.lookup.1 in
    subst (λ o. WritesFault (file_of o) (reason_in o) old new c.write_why.new.output.failed c.write_why.result) (sym found) c.write_why.ensures

pub returns-in-None : goal.returns-in-None
returns-in-None g c =
    let old = g.W.Write.contents c.args.output.now.device.device in
    let new = g.W.Write.contents c.write_fault.new.output.device.device in
    let none = slice_get_past c.args.parts.now c.args.i c.in-None.ensures.lookup.3 in
    subst (λ o. WritesFault (file_of o) (reason_in o) old new c.write_fault.new.output.failed c.write_fault.result) (sym none) c.write_fault.ensures
