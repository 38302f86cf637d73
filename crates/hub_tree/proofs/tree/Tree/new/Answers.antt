use Rattle.std.proofs.Common.{◌≡◌, Some, None, ap, sym, ◌∙◌}
use Rattle.std.specs.Option.{is_some}
use Rattle.std.proofs.lemmas.Bool.{false≢true}
use Rattle.hub_tree.specs.declared.contents.Contents.TheVariants.{File}
use Rattle.hub_tree.proofs.LookUp.{replica_of-nothing, get_nothing}
use Rattle.hub_tree.proofs.tree.Tree.new.Goals as goal

pub returns : goal.returns
returns c = replica_of-nothing

pub invariant_of-result : goal.invariant_of-result
invariant_of-result c = (
  λ p h. absurd (false≢true (sym (ap is_some (get_nothing p)) ∙ h)),
  λ p b h. let e : None ≡ Some (File b) = sym (get_nothing p) ∙ h in cc,
  c.new.ensures.empty,
)
