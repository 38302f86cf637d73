use Rattle.clap.specs.Words.{found_of}
use Rattle.hub_cli.proofs.WordsFacts.{names_are}
use Rattle.hub_cli.proofs.files.files_found.Goals as goal

pub returns : goal.returns
returns c = names_are (found_of c.args.found.now) c.in_ok-operands_found.ensures c.get_str.ensures c.get_str-2.ensures c.get_str-3.ensures c.get_str-4.ensures
