use Rattle.std.proofs.Common.{◌∙◌, ap, is_some, sym}
use Rattle.hub_cli.proofs.WordsFacts.{is_some-option_map}
use Rattle.clap.proofs.WalkLemmas.{first_value-rows}
use Rattle.clap.specs.Words.{found_of}
use Rattle.hub_cli.proofs.words.is_given.Goals as goal

pub returns : goal.returns
returns c =
    c.is_some.ensures ∙ sym (is_some-option_map (λ text. text.now) c.get_str.result)
    ∙ ap is_some (c.get_str.ensures ∙ first_value-rows (found_of c.args.found.now) c.args.name.now)
