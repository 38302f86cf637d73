use Rattle.std.proofs.Common.{sym, ap, subst, ◌∙◌}
use Rattle.std.specs.FinMap as fin
use Rattle.hub_tree.specs.Marked.{with_entries}
use Rattle.hub_tree.proofs.Inserted.{IsGood, collected}
use Rattle.hub_tree.proofs.archive.builder.ArchiveBuilder.build.Goals as goal

pub invariant_of-result : goal.invariant_of-result
invariant_of-result c = subst IsGood (sym (collected c.self.inside.marks.items c.in_ok-map_of.field-0 c.in_ok-map_of.ensures)) c.self.invariant

pub returns : goal.returns
returns c = collected c.self.inside.marks.items c.in_ok-map_of.field-0 c.in_ok-map_of.ensures ∙ ap (with_entries fin.empty) c.self.view_is
