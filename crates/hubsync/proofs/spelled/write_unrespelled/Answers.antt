use Rattle.std.proofs.Common.{◌∙◌, List, ℕ, subst}
use Rattle.hubsync.specs.Bundled.{WritesFault, respell_place}
use Rattle.hubsync.proofs.spelled.write_unrespelled.Goals as goal

pub returns-in-Ok : goal.returns-in-Ok
returns-in-Ok g c =
    let old = g.W.Write.contents c.args.output.now.device.device in
    let new = g.W.Write.contents c.write_fault.new.output.device.device in
    subst
    (λ (word : List ℕ).
    WritesFault (respell_place c.args.fault.now) word old new c.write_fault.new.output.failed
    c.write_fault.result)
    (c.as_str.ensures.value ∙ c.in-Ok.ensures)
    (subst
    (λ (place : List ℕ).
    WritesFault place c.as_str.result.now old new c.write_fault.new.output.failed
    c.write_fault.result)
    c.respell_place.ensures c.write_fault.ensures)
