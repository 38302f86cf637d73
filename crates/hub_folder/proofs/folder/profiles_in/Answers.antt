use Rattle.std.proofs.Common.{◌∙◌, map, string_bytes, ap, subst, arith}
use Rattle.hub_include.specs.Files.{known_of}
use Rattle.hub_folder.specs.Folders.{IsUntakenFolder}
use Rattle.hub_folder.specs.Taken.{Agrees, IsUntakenOf}
use Rattle.hub_folder.specs.Operands.{bytes_in}
use Rattle.hub_folder.specs.Told.{AreTold, all_bytes_told, left_outs_told, profiles_told, rootless_told}
use Rattle.hub_folder.proofs.NotedFacts.{told-lefts, told-rootless}
use Rattle.hub_folder.proofs.ToldFacts.{passed_up, picked-bytes, told-each, told-profiles, untaken-folder}
use Rattle.hub_folder.proofs.folder.profiles_in.Goals as goal

pub returns-clause-ok : goal.returns-clause-ok
returns-clause-ok g c =
    let known = known_of c.fill_all.new.shelf in
    let told = c.in_ok-told.told.items in
    let named = ap (map string_bytes) c.as_slice-2.ensures.value ∙ c.in_ok-names.ensures.ok.2 in
    let are = subst (λ ns. AreTold known ns told) named c.in_ok-told.ensures.ok in
    let place = c.as_str.ensures.value ∙ c.in_ok-path.ensures in
    let again = c.as_str-2.ensures.value ∙ c.in_ok-path.ensures in
    record {
      names = c.in_ok-names.ensures.ok.0;
      listed = c.in_ok-names.ensures.ok.1;
      known = known;
      agrees = subst (λ p. Agrees (g.F.FileReader.reads c.args.reader.now) p known) place c.in_ok-fill_all.ensures.ok;
      told = told-each known _ told are;
      profiles_are =
          c.in_ok-profiles_of.ensures.are
          ∙ (λ i. profiles_told (again i) (c.as_slice-3.ensures.value i) (c.as_slice-3.ensures.value i))
          ∙ told-profiles known _ _ told are;
    }

pub returns-clause-noted : goal.returns-clause-noted
unfolding returns-clause-ok
returns-clause-noted g c =
    let known = known_of c.fill_all.new.shelf in
    let told = c.in_ok-told.told.items in
    let named = ap (map string_bytes) c.as_slice-2.ensures.value ∙ c.in_ok-names.ensures.ok.2 in
    let are = subst (λ ns. AreTold known ns told) named c.in_ok-told.ensures.ok in
    let again = c.as_str-2.ensures.value ∙ c.in_ok-path.ensures in
    let last = c.as_str-3.ensures.value ∙ c.in_ok-path.ensures in
    record {
      profiles = returns-clause-ok g c;
      left_out_are =
          c.in_ok-profiles_of.ensures.left_out
          ∙ (λ i. left_outs_told (again i) (c.as_slice-3.ensures.value i) (c.as_slice-3.ensures.value i))
          ∙ told-lefts known _ _ told are;
      rootless_are =
          c.in_ok-rootless_of.ensures
          ∙ (λ i. rootless_told (last i) (c.as_slice-4.ensures.value i) (c.as_slice-4.ensures.value i))
          ∙ told-rootless known _ _ told are;
    }

pub returns-clause-fits : goal.returns-clause-fits
returns-clause-fits g c =
    let told = c.in_ok-told.told.items in
    let path = c.as_str-2.result.now in
    let ts = c.as_slice-3.result.now in
    omega (arith, c.in_ok-told.ensures.fits, ap bytes_in c.in_ok-profiles_of.ensures.are, picked-bytes path ts ts, ap all_bytes_told c.as_slice-3.ensures.value)

pub returns-in_err-names-clause-err : goal.returns-in_err-names-clause-err
returns-in_err-names-clause-err g c =
    let reads = g.F.FileReader.reads c.args.reader.now in
    let lists = g.F.FileReader.lists c.args.reader.now in
    passed_up c.from_residual.result c.in_err-names.field-0.0 (IsUntakenFolder reads lists c.args.taken c.args.folder.now) c.from_residual.ensures.1
    (c.in_err-names.ensures.err c.args.taken)

pub returns-in_err-fill_all-clause-err : goal.returns-in_err-fill_all-clause-err
returns-in_err-fill_all-clause-err g c =
    let reads = g.F.FileReader.reads c.args.reader.now in
    let lists = g.F.FileReader.lists c.args.reader.now in
    let taken = c.args.taken in
    let folder = c.args.folder.now in
    let e = c.in_err-fill_all.field-0.0 in
    let named = ap (map string_bytes) c.as_slice.ensures.value in
    passed_up c.from_residual-in_err-fill_all.result e (IsUntakenFolder reads lists taken folder) c.from_residual-in_err-fill_all.ensures.1
    (untaken-folder reads lists taken folder _ e c.in_ok-names.ensures.ok
    (subst (λ p. IsUntakenOf reads p taken (map string_bytes c.in_ok-names.names.items) e) (c.as_str.ensures.value ∙ c.in_ok-path.ensures)
    (subst (λ ns. IsUntakenOf reads c.as_str.result.now taken ns e) named c.in_err-fill_all.ensures.err)))

pub returns-in_err-told-clause-err : goal.returns-in_err-told-clause-err
returns-in_err-told-clause-err g c =
    let reads = g.F.FileReader.reads c.args.reader.now in
    let lists = g.F.FileReader.lists c.args.reader.now in
    let taken = c.args.taken in
    let folder = c.args.folder.now in
    let e = c.in_err-told.field-0.0 in
    let named = ap (map string_bytes) c.as_slice-2.ensures.value in
    passed_up c.from_residual-in_err-told.result e (IsUntakenFolder reads lists taken folder) c.from_residual-in_err-told.ensures.1
    (untaken-folder reads lists taken folder _ e c.in_ok-names.ensures.ok
    (subst (λ p. IsUntakenOf reads p taken (map string_bytes c.in_ok-names.names.items) e) (c.as_str.ensures.value ∙ c.in_ok-path.ensures)
    (subst (λ ns. IsUntakenOf reads c.as_str.result.now taken ns e) named c.in_err-told.ensures.err)))
