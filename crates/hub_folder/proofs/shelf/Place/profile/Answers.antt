use Rattle.std.proofs.Common.{◌∙◌, [], ap, subst, arith}
use Rattle.hub_include.specs.Files.{known_of}
use Rattle.hub_include.specs.Includes.{lines_of}
use Rattle.std.proofs.lemmas.List.Elements.{All-nil}
use Rattle.hub_folder.specs.Taken.{IsUntakenAfter, IsUntakenAlone}
use Rattle.hub_folder.specs.Told.{IsTold}
use Rattle.hub_folder.proofs.ToldFacts.{over-limit, passed_up}
use Rattle.hub_folder.proofs.UntoldFacts.{over-alone, untold-alone}
use Rattle.hub_folder.proofs.shelf.Place.profile.Goals as goal

pub returns-in_err-bytes_with-clause-err : goal.returns-in_err-bytes_with-clause-err
returns-in_err-bytes_with-clause-err g c =
    let reads = g.F.FileReader.reads c.args.self.now.reader.now in
    let place = c.args.self.now.path.now in
    let taken = c.args.self.now.taken in
    let known = known_of c.args.folder.now in
    let told = c.in_ok-told.told in
    let e = c.in_err-bytes_with.field-0.0 in
    passed_up c.from_residual-in_err-bytes_with.result e (IsUntakenAlone reads place taken c.args.name.now) c.from_residual-in_err-bytes_with.ensures.1
    (over-alone reads place taken taken c.args.name.now told e c.in_err-bytes_with.ensures.err
    (subst (λ n. IsUntakenAfter reads place taken [] n e) c.in_ok-told.ensures.ok
    (over-limit reads place taken taken known [] told e c.requires.known (All-nil (IsTold known))
    (ap (lines_of known) c.in_ok-told.ensures.ok ∙ c.in_ok-told.ensures.lines) (omega arith) c.in_err-bytes_with.ensures.err)))

pub returns-in_err-told-clause-err : goal.returns-in_err-told-clause-err
returns-in_err-told-clause-err g c =
    let reads = g.F.FileReader.reads c.args.self.now.reader.now in
    let place = c.args.self.now.path.now in
    let taken = c.args.self.now.taken in
    let known = known_of c.args.folder.now in
    let name = c.args.name.now in
    let e = c.in_err-told.field-0.0 in
    passed_up c.from_residual.result e (IsUntakenAlone reads place taken name) c.from_residual.ensures.1
    (untold-alone reads place taken known name e c.requires.known c.requires.there c.in_err-told.ensures.err)
