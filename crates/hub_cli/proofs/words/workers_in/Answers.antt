use Rattle.std.proofs.Common.{◌∙◌, ap, codes}
use Rattle.std.specs.Str.Parse.{ParsesUnsigned, ExplainsUnsignedError, HasUnsignedDigitsIfOk}
use Rattle.clap.proofs.WalkLemmas.{one_text-rows}
use Rattle.clap.specs.Words.{found_of, one_text}
use Rattle.hub_cli.specs.Words.{workers_in}
use Rattle.hub_cli.proofs.WordsFacts.{workers_are}
use Rattle.hub_cli.proofs.words.workers_in.Goals as goal

pub returns : goal.returns
returns c =
    workers_are (λ bs r. ParsesUnsigned 8 10 bs r × ExplainsUnsignedError 10 bs r × HasUnsignedDigitsIfOk bs r) (λ bs r g. g.0)
    (one_text (found_of c.args.found.now) (codes "workers")) c.get_one.result c.get_one.ensures.none c.get_one.ensures.value
    ∙ ap workers_in (one_text-rows (found_of c.args.found.now) (codes "workers"))
