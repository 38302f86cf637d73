use Rattle.std.proofs.Common.{◌≡◌, ◌∙◌, ◌++◌, None, map, ap, refl, subst, sym}
use Rattle.hub_cli.specs.Words.{names_of}
use Rattle.hubsync.specs.Bundled.{Disk, option_labels, unknown_host}
use Rattle.hub_folder.specs.Machines.{second_machine}
use Rattle.hub_folder.specs.Operands.{AreNamed}
use Rattle.hub_folder.specs.Told.{owned_of, texts_in}
use Rattle.hubsync.specs.Named.{HaveTexts, label_named, table_in}
use Rattle.hubsync.proofs.FilesFacts.{hold_taken, option-unserved}
use Rattle.hubsync.proofs.files.read_for_unison.Goals as goal

pub returns-in-Err-read_hosts-clause-err : goal.returns-in-Err-read_hosts-clause-err
returns-in-Err-read_hosts-clause-err g c = c.in-Err-read_hosts.ensures.err (names_of c.args.files.now) refl

pub returns-clause-err : goal.returns-clause-err
returns-clause-err g c =
    let names = names_of c.args.files.now in
    let disk : Disk = record { reads = g.F.FileReader.reads c.args.reader.now; lists = g.F.FileReader.lists c.args.reader.now; folders = g.F.FileReader.folders c.args.reader.now } in
    option-unserved disk names (map label_named c.as_slice-4.result.now) c.in-Err-read_all.fault
    (ap (map label_named) c.as_slice-4.ensures.value ∙ c.in_ok-named.ensures ∙ ap (λ ns. map label_named ns ++ option_labels names) c.new.ensures.items)
    c.in-Err-read_all.ensures.err

pub returns-in-Ok-read_all-clause-ok : goal.returns-in-Ok-read_all-clause-ok
returns-in-Ok-read_all-clause-ok g c =
    let names = names_of c.args.files.now in
    let disk : Disk = record { reads = g.F.FileReader.reads c.args.reader.now; lists = g.F.FileReader.lists c.args.reader.now; folders = g.F.FileReader.folders c.args.reader.now } in
    let profiles = c.in-Ok.taken.profiles.items in
    let others = c.in-Ok-read_all.others.items in
    let held = c.in_ok-with_profiles-in-Ok-read_all.field-0.items in
    let labels_are = ap (map label_named) c.as_slice-4.ensures.value ∙ c.in_ok-named.ensures ∙ ap (λ ns. map label_named ns ++ option_labels names) c.new.ensures.items in
    hold_taken disk names profiles c.in-Ok-read_hosts.hosts others held
    (subst (λ fs. AreNamed disk.reads disk.lists (texts_in fs) (map owned_of profiles)) c.as_slice-2.ensures.value c.in-Ok.ensures.ok)
    (subst (λ fs. second_machine (texts_in fs) ≡ None) c.as_slice.ensures.value (sym c.in_default.ensures))
    c.in-Ok-read_hosts.ensures.ok
    (subst (λ t. unknown_host t names.profiles ≡ None) c.as_ref.ensures.value
    (subst (λ fs. unknown_host (table_in c.as_ref.result) (texts_in fs) ≡ None) c.as_slice-3.ensures.value (sym c.in_default-unknown_host.ensures)))
    (c.in-Ok-read_all.ensures.labels ∙ labels_are)
    c.in-Ok-read_all.ensures.bytes
    c.in_ok-with_profiles-in-Ok-read_all.ensures.labels
    (subst (λ t. HaveTexts t profiles others held) c.as_ref-in-Ok-read_all.ensures.value c.in_ok-with_profiles-in-Ok-read_all.ensures.bytes)
