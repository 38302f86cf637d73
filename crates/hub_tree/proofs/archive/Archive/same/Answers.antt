use Rattle.std.proofs.Common.{List, sym, ap, ◌∙◌}
use Rattle.std.specs.FinMap.{from_entries}
use Rattle.hub_path.specs.Path.{Path, path_cmp}
use Rattle.hub_tree.specs.declared.contents.Mark.{Mark}
use Rattle.hub_tree.specs.laws.Order.{path_total, path_antisymmetric}
use Rattle.hub_tree.specs.laws.Ascending.{same_entries}
use Rattle.hub_tree.proofs.archive.Archive.same.Goals as goal

pub returns : goal.returns
returns c = (
  λ t. sym c.self.view_is ∙ ap (λ (es : List (Path × Mark)). from_entries {R = path_cmp} es) (c.have_same_marks.ensures.same.0 t) ∙ c.other.view_is,
  λ e. c.have_same_marks.ensures.same.1
      (same_entries path_total path_antisymmetric c.self.inside.marks.entries c.other.inside.marks.entries c.have_same_marks.ensures.ordered c.have_same_marks.ensures.others
      (c.self.view_is ∙ e ∙ sym c.other.view_is)),
)
