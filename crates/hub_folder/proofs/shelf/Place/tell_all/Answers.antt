use Rattle.std.proofs.Common.{◌∙◌, ◌+◌, drop, map, string_bytes, subst, take, arith, ap}
use Rattle.std.proofs.lemmas.Grind.{common_steps}
use Rattle.std.proofs.lemmas.List.Elements.{All-push, All-same}
use Rattle.std.proofs.lemmas.List.Sums.{sum_by_push}
use Rattle.hub_include.specs.Files.{known_of}
use Rattle.hub_include.specs.Includes.{lines_of}
use Rattle.hub_folder.specs.Taken.{IsUntakenAfter, IsUntakenOf, IsUntold}
use Rattle.hub_folder.specs.Told.{IsTold, all_bytes_told, bytes_told, file_told}
use Rattle.hub_folder.proofs.OperandFacts.{parted-item}
use Rattle.hub_folder.proofs.ToldFacts.{over-limit, passed_up, told-each, untaken-of}
use Rattle.hub_folder.proofs.UntoldFacts.{untold-after}
use Rattle.hub_folder.proofs.shelf.Place.tell_all.Goals as goal

pub loop-name-preserved : goal.loop-name-preserved
loop-name-preserved g c =
    let known = known_of c.args.shelf.now in
    let one = c.in_ok-one.one in
    record {
      told = record {
        names_are = grind (arith, common_steps);
        lines_are =
            All-same (IsTold known) _ _ c.in_ok-push.ensures.items
            (All-push (IsTold known) c.loop-name.told.items one c.loop-name.invariant.told.lines_are (ap (lines_of known) c.in_ok-one.ensures.ok ∙ c.in_ok-one.ensures.lines));
      };
      bytes =
          omega (
            arith,
            c.in_ok-bytes.ensures.sum,
            c.loop-name.invariant.bytes,
            ap all_bytes_told c.in_ok-push.ensures.items,
            sum_by_push bytes_told c.loop-name.told.items one,
          );
      within = c.in_ok-bytes.ensures.within;
    }

pub returns-in_err-one-clause-err : goal.returns-in_err-one-clause-err
returns-in_err-one-clause-err g c =
    let reads = g.F.FileReader.reads c.args.self.now.reader.now in
    let place = c.args.self.now.path.now in
    let taken = c.args.self.now.taken in
    let names = c.args.names.now in
    let i = c.loop-name.name-index in
    let before = map string_bytes (take i names) in
    let name = string_bytes c.name-item.result in
    let known = known_of c.args.shelf.now in
    let e = c.in_err-one.field-0.0 in
    passed_up c.from_residual.result e (IsUntakenOf reads place taken (map string_bytes names)) c.from_residual.ensures.1
    (untaken-of reads place taken (map string_bytes names) before name (map string_bytes (drop (i + 1) names)) e
    (parted-item string_bytes names i c.name-item.result c.loop-name-test.true c.name-item.is)
    (untold-after reads place taken known before name e c.requires.known (told-each known before c.loop-name.told.items c.loop-name.invariant.told)
    (subst (λ n. IsUntold place known n e) c.as_str.ensures.value c.in_err-one.ensures.err)))

pub returns-in_err-bytes-clause-err : goal.returns-in_err-bytes-clause-err
returns-in_err-bytes-clause-err g c =
    let reads = g.F.FileReader.reads c.args.self.now.reader.now in
    let place = c.args.self.now.path.now in
    let taken = c.args.self.now.taken in
    let names = c.args.names.now in
    let i = c.loop-name.name-index in
    let before = map string_bytes (take i names) in
    let name = string_bytes c.name-item.result in
    let known = known_of c.args.shelf.now in
    let told = c.loop-name.told.items in
    let one = c.in_ok-one.one in
    let e = c.in_err-bytes.field-0.0 in
    let after =
    over-limit reads place taken c.loop-name.bytes known told one e c.requires.known c.loop-name.invariant.told.lines_are
    (ap (lines_of known) c.in_ok-one.ensures.ok ∙ c.in_ok-one.ensures.lines) c.loop-name.invariant.bytes c.in_err-bytes.ensures.err in
    passed_up c.from_residual-in_err-bytes.result e (IsUntakenOf reads place taken (map string_bytes names)) c.from_residual-in_err-bytes.ensures.1
    (untaken-of reads place taken (map string_bytes names) before name (map string_bytes (drop (i + 1) names)) e
    (parted-item string_bytes names i c.name-item.result c.loop-name-test.true c.name-item.is)
    (subst (λ ns. IsUntakenAfter reads place taken ns name e) c.loop-name.invariant.told.names_are
    (subst (λ n. IsUntakenAfter reads place taken (map file_told told) n e) (c.in_ok-one.ensures.ok ∙ c.as_str.ensures.value) after)))
