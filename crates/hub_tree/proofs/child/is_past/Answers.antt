use Rattle.std.proofs.Common.{sym, ◌∙◌}
use Rattle.std.specs.FinMap.Entries.{find}
use Rattle.std.specs.Ordering.{is_lt}
use Rattle.hub_path.specs.Path.{name_cmp}
use Rattle.hub_tree.proofs.Putting.{there_at_name, nothing_past, nothing_among}
use Rattle.hub_tree.proofs.child.is_past.Goals as goal

pub returns-in-Some-clause-left : goal.returns-in-Some-clause-left
returns-in-Some-clause-left c h =
    there_at_name c.args.children.now.entries c.args.name.now
    ∙ nothing_past (find name_cmp c.args.name.now c.args.children.now.entries) (is_lt (name_cmp c.in-Some.last.now c.args.name.now))
    (c.in-Some.ensures.greatest c.args.name.now) (sym c.lt.ensures ∙ h)

pub returns-in-None-clause-left : goal.returns-in-None-clause-left
returns-in-None-clause-left c h = nothing_among c.args.children.now.entries c.args.name.now c.in-None.ensures.variant.1
