use Rattle.std.proofs.Common.{map}
use Rattle.clap.specs.Words.{app_of}
use Rattle.hub_cli.proofs.WordsFacts.{asked_is, files_are, passed_up, refused, strict_is, unison_is}
use Rattle.hub_cli.proofs.words.parse.Goals as goal

pub returns-in_err-matches-clause-err : goal.returns-in_err-matches-clause-err
returns-in_err-matches-clause-err g c =
    passed_up c.from_residual.result c.in_err-matches.field-0.0 _ c.from_residual.ensures.1 (refused (app_of c.args.hubsync.now) (map g.S.AsStr.text c.args.words.now) c.in_err-matches.field-0.0 c.requires c.in_err-matches.ensures.kinds)

pub returns-clause-asked : goal.returns-clause-asked
returns-clause-asked g c =
    asked_is (app_of c.args.hubsync.now) (map g.S.AsStr.text c.args.words.now) c.in_ok-matches.matches c.requires c.in_ok-matches.ensures.kinds c.in_ok-matches.ensures.ok.2

pub returns-clause-files : goal.returns-clause-files
returns-clause-files g c =
    files_are (app_of c.args.hubsync.now) (map g.S.AsStr.text c.args.words.now) c.in_ok-matches.matches c.requires c.in_ok-matches.ensures.ok.2

pub returns-clause-strict : goal.returns-clause-strict
returns-clause-strict g c =
    strict_is (app_of c.args.hubsync.now) (map g.S.AsStr.text c.args.words.now) c.in_ok-matches.matches c.requires c.in_ok-matches.ensures.ok.2

pub returns-clause-unison : goal.returns-clause-unison
returns-clause-unison g c =
    unison_is (app_of c.args.hubsync.now) (map g.S.AsStr.text c.args.words.now) c.in_ok-matches.matches c.requires c.in_ok-matches.ensures.ok.2
