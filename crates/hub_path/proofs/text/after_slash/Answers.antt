use Rattle.std.proofs.Common.{lit<}
use Rattle.std.proofs.lemmas.Str.Pattern.{strip_prefix_char}
use Rattle.hub_path.specs.laws.Ascii.{slash-cut}
use Rattle.hub_path.proofs.text.after_slash.Goals as goal

pub returns : goal.returns
returns c = slash-cut c.args.text.now _ c.utf8.text (strip_prefix_char 47 c.args.text.now _ c.strip_prefix.ensures.cases (lit< tt))
