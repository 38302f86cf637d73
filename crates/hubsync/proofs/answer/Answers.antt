use Rattle.std.proofs.Common.{◌≡◌, ◌∙◌, false, map, string_bytes, arith, subst, sym, ap}
use Rattle.hub_cli.specs.Words.{are_none, asked_of, files_of}
use Rattle.hubsync.specs.Bundled.{Disk, ServesFiles, Sources}
use Rattle.hubsync.specs.Named.{sources_in}
use Rattle.hubsync.specs.Process.{sources_of}
use Rattle.hubsync.specs.Strict.{strict_status_of}
use Rattle.hubsync.proofs.Words.{by_files, out_of_memory}
use Rattle.hubsync.proofs.answer.Goals as goal

pub returns-then-not-is_empty : goal.returns-then-not-is_empty
returns-then-not-is_empty g c =
    let words = map string_bytes c.args.words.now in
    let answered = c.serve_files-answered.result in
    let old = g.W.Write.contents c.args.output.now.device.device in
    let new = g.W.Write.contents c.serve_files-answered.new.output.device.device in
    let failed = c.serve_files-answered.new.output.failed in
    let disk : Disk = record { reads = g.F.FileReader.reads c.args.reader.now; lists = g.F.FileReader.lists c.args.reader.now; folders = g.F.FileReader.folders c.args.reader.now } in
    let sources : sources_in c.in-Ok.options ≡ sources_of words = λ i. record { names = c.in-Ok.ensures.files i; is_for_unison = c.in-Ok.ensures.unison i } in
    let files = c.in-Ok.ensures.files in
    let some : are_none (files_of words) ≡ false = sym (ap are_none files) ∙ (sym c.is_empty.ensures ∙ grind (arith, c.if-not-is_empty.true)) in
    by_files words answered.may_mislead answered.status some c.in-Ok.ensures.asked
    (subst (λ (sources : Sources). ServesFiles disk (asked_of words) sources old new failed answered.status) sources c.serve_files-answered.ensures)
    (c.strict_status.ensures ∙ ap (λ strict. strict_status_of strict answered.may_mislead answered.status) c.in-Ok.ensures.strict)

pub returns-then-eq : goal.returns-then-eq
returns-then-eq g c = out_of_memory (map string_bytes c.args.words.now) c.write_memory.ensures
