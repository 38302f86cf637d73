use Rattle.std.proofs.Common.{◌∙◌, map, subst, sym, take}
use Rattle.std.specs.List.{All}
use Rattle.hubsync.specs.Bundled.{Disk, HasFolderAmong}
use Rattle.hubsync.specs.Named.{label_held}
use Rattle.hubsync.proofs.FolderFacts.{all_labels, labels_more, one_more, unison_folders}
use Rattle.hubsync.proofs.folders.folders_of.Goals as goal

pub loop-one-preserved : goal.loop-one-preserved
loop-one-preserved g c =
    let disk : Disk = record { reads = g.F.FileReader.reads c.args.reader.now; lists = g.F.FileReader.lists c.args.reader.now; folders = g.F.FileReader.folders c.args.reader.now } in
    let before = map label_held (take c.loop-one.one-index c.args.held.now) in
    subst (All (HasFolderAmong disk c.push_folder.new.folders.items))
    (sym (labels_more c.args.held.now c.loop-one.one-index c.one-item.result c.loop-one-test.true c.one-item.is))
    (one_more disk c.loop-one.folders.items c.push_folder.new.folders.items before (label_held c.one-item.result)
    c.in_ok-push_folder.ensures.kept c.loop-one.invariant c.in_ok-push_folder.ensures.added)

pub returns : goal.returns
returns g c =
    let disk : Disk = record { reads = g.F.FileReader.reads c.args.reader.now; lists = g.F.FileReader.lists c.args.reader.now; folders = g.F.FileReader.folders c.args.reader.now } in
    λ sources is. unison_folders disk sources (map label_held c.args.held.now) c.loop-one.folders.items (is ∙ c.if-not-is_for_unison.false)
    (subst (All (HasFolderAmong disk c.loop-one.folders.items)) (all_labels c.args.held.now c.loop-one.one-index c.loop-one-test.false) c.loop-one.invariant)
