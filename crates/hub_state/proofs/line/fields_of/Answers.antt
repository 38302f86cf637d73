use Rattle.std.proofs.Common.{lit<}
use Rattle.std.proofs.lemmas.Str.Pattern.{split_once_first}
use Rattle.hub_state.proofs.Drafts.{fields_from}
use Rattle.hub_state.proofs.line.fields_of.Goals as goal

pub returns : goal.returns
returns c = fields_from c.args.text.now c.split_once.result (split_once_first 32 c.args.text.now c.split_once.result c.split_once.ensures.cases (lit< tt))
