use Rattle.std.proofs.Common.{sym, ap, ◌∙◌}
use Rattle.std.specs.FinMap.{entries}
use Rattle.hub_tree.specs.laws.Order.{path_total, path_antisymmetric}
use Rattle.hub_tree.specs.laws.Ascending.{entries-ascending}
use Rattle.hub_tree.proofs.archive.Archive.iter.Goals as goal

pub returns : goal.returns
returns c =
    c.iter.ensures.rest ∙ sym (entries-ascending path_total path_antisymmetric c.self.inside.marks.entries c.iter.ensures.ordered) ∙ ap entries c.self.view_is
