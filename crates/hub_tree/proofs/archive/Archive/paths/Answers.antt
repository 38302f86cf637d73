use Rattle.std.proofs.Common.{sym, ap, map, ◌∙◌}
use Rattle.std.specs.FinMap.{keys}
use Rattle.hub_tree.specs.laws.Order.{path_total, path_antisymmetric}
use Rattle.hub_tree.specs.laws.Ascending.{entries-ascending}
use Rattle.hub_tree.proofs.archive.Archive.paths.Goals as goal

pub returns : goal.returns
returns c =
    c.from_vec.ensures ∙ c.in_ok-copies_of_paths.ensures.paths
    ∙ sym (ap (map (λ e. e.0)) (entries-ascending path_total path_antisymmetric _ c.in_ok-copies_of_paths.ensures.ordered))
    ∙ ap keys c.self.view_is
