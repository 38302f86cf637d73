use Rattle.std.proofs.Common.{IfSome, ap, is_some, string_bytes, subst}
use Rattle.hub_include.specs.Files.{known_of}
use Rattle.hub_folder.specs.Taken.{IsUntaken}
use Rattle.hub_folder.specs.Wanted.{IsUnknown}
use Rattle.hub_folder.proofs.LookedFacts.{keeps-more, looked-more}
use Rattle.hub_folder.proofs.ToldFacts.{only-error}
use Rattle.hub_folder.proofs.shelf.Place.fill.Goals as goal

pub loop-preserved : goal.loop-preserved
loop-preserved g c =
    let unread = subst (λ w. IfSome w (IsUnknown c.loop.folder)) c.in-Some.is c.in_ok-wanted.ensures in
    let noted = c.in_ok-note-in-Ok.ensures in
    record {
      agrees = noted.agrees;
      keeps = keeps-more _ (known_of c.loop.folder) (known_of c.note.new.folder) (string_bytes c.in-Some.wanted.name) unread noted.others c.loop.invariant.keeps;
      looked =
          looked-more (known_of c.loop.folder) (known_of c.note.new.folder) (string_bytes c.in-Some.wanted.name) c.loop.counter
          unread (ap is_some noted.noted) noted.others c.loop.invariant.looked;
    }

pub returns-in-Err-clause-err : goal.returns-in-Err-clause-err
returns-in-Err-clause-err g c =
    let reads = g.F.FileReader.reads c.args.self.now.reader.now in
    only-error c.unless_wrong.result c.in-Err.fault (IsUntaken reads c.args.self.now.path.now c.args.name.now) c.unless_wrong.ensures
    (c.in-Err.ensures.err c.args.name.now)
