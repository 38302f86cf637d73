use Rattle.std.proofs.Common.{◌+◌, drop, map, string_bytes, subst, take}
use Rattle.hub_folder.specs.Taken.{IsUntaken, IsUntakenOf}
use Rattle.hub_folder.proofs.OperandFacts.{parted-item}
use Rattle.hub_folder.proofs.ToldFacts.{passed_up, untaken-after, untaken-of}
use Rattle.hub_folder.proofs.shelf.Place.fill_all.Goals as goal

pub returns-in_err-fill-clause-err : goal.returns-in_err-fill-clause-err
returns-in_err-fill-clause-err g c =
    let reads = g.F.FileReader.reads c.args.self.now.reader.now in
    let place = c.args.self.now.path.now in
    let taken = c.args.self.now.taken in
    let names = c.args.names.now in
    let i = c.loop-name.name-index in
    let before = map string_bytes (take i names) in
    let name = string_bytes c.name-item.result in
    let e = c.in_err-fill.field-0.0 in
    passed_up c.from_residual.result e (IsUntakenOf reads place taken (map string_bytes names)) c.from_residual.ensures.1
    (untaken-of reads place taken (map string_bytes names) before name (map string_bytes (drop (i + 1) names)) e
    (parted-item string_bytes names i c.name-item.result c.loop-name-test.true c.name-item.is)
    (untaken-after reads place taken before name e (subst (λ n. IsUntaken reads place n e) c.as_str.ensures.value c.in_err-fill.ensures.err)))
