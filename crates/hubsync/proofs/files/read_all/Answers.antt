use Rattle.std.proofs.Common.{map}
use Rattle.std.proofs.lemmas.List.Elements.{All-map}
use Rattle.hubsync.specs.Bundled.{HasContents}
use Rattle.hubsync.specs.Named.{IsUnreadOf, bytes_held, label_named}
use Rattle.hubsync.proofs.FilesFacts.{Contains-map_at, passed_up, unread-of}
use Rattle.hubsync.proofs.files.read_all.Goals as goal

pub returns-in_err-one-clause-err : goal.returns-in_err-one-clause-err
returns-in_err-one-clause-err g c =
    let reads = g.F.FileReader.reads c.args.reader.now in
    let labels = map label_named c.args.named.now in
    passed_up c.from_residual.result c.in_err-one.field-0.0 (IsUnreadOf reads labels) c.from_residual.ensures.1
    (unread-of reads labels _ c.in_err-one.field-0.0 (Contains-map_at label_named c.args.named.now c.loop-name.name-index _ c.loop-name-test.true) c.in_err-one.ensures.err)

pub returns-clause-bytes : goal.returns-clause-bytes
returns-clause-bytes g c = All-map (HasContents (g.F.FileReader.reads c.args.reader.now)) bytes_held c.loop-name.held.items c.loop-name.invariant.1
