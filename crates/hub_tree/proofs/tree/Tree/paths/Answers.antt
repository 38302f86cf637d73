use Rattle.std.proofs.Common.{ap, ◌∙◌}
use Rattle.std.specs.FinMap.{keys}
use Rattle.hub_tree.specs.Nodes.{replica_of}
use Rattle.hub_tree.proofs.Paths.{whole}
use Rattle.hub_tree.proofs.tree.Tree.paths.Goals as goal

pub returns : goal.returns
returns c =
    c.from_vec.ensures
    ∙ whole c.push_paths-2.new.paths.items c.new-paths.result.items (keys (replica_of c.children.result.now.entries)) c.top.result
    c.new-paths.ensures.items c.top.ensures c.in_ok-push_paths.ensures
    ∙ ap keys c.children.ensures.replica
