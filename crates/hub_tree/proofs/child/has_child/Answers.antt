use Rattle.std.proofs.Common.{sym, ◌∙◌}
use Rattle.hub_tree.proofs.Putting.{there_at_name}
use Rattle.hub_tree.proofs.child.has_child.Goals as goal

pub returns-clause-left : goal.returns-clause-left
returns-clause-left c = c.contains_key.ensures ∙ sym (there_at_name c.args.children.now.entries c.args.name.now)
