use Rattle.std.proofs.Common.{sym, ◌∙◌}
use Rattle.hub_tree.proofs.tree.Tree.same.Goals as goal

pub returns : goal.returns
returns c = (
  λ t. sym c.children.ensures.replica ∙ c.are_same.ensures.0 t ∙ c.children-2.ensures.replica,
  λ e. c.are_same.ensures.1 (c.children.ensures.replica ∙ e ∙ sym c.children-2.ensures.replica),
)
