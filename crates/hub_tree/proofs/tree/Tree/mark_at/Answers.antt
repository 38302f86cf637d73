use Rattle.std.proofs.Common.{sym, ap, ◌∙◌, arith}
use Rattle.hub_tree.specs.Tree.{mark_of}
use Rattle.sha2.specs.Sha256.{sha256}
use Rattle.hub_tree.specs.Nodes.{contents_of}
use Rattle.hub_tree.specs.declared.contents.Mark.TheVariants.{File}
use Rattle.hub_tree.proofs.LookUp.{contents_at-node, contents_at-nothing, contents-file, contents-directory}
use Rattle.hub_tree.proofs.Trees.{IsTree-replica_of}
use Rattle.hub_tree.proofs.tree.Tree.mark_at.Goals as goal

pub returns-in-Some-File-clause-mark : goal.returns-in-Some-File-clause-mark
returns-in-Some-File-clause-mark c = ap File (c.digest.ensures ∙ ap sha256 c.in-Some-File.blob-is) ∙ sym (ap mark_of (contents_at-node _ _ _ _ c.children-children.ensures.replica (omega arith) c.in-Some-File.ensures ∙ ap contents_of c.in-Some-File.field-0-is ∙ contents-file _))

pub returns-in-Some-Directory-clause-mark : goal.returns-in-Some-Directory-clause-mark
returns-in-Some-Directory-clause-mark c = sym (ap mark_of (contents_at-node _ _ _ _ c.children-children.ensures.replica (omega arith) c.in-Some-Directory.ensures ∙ ap contents_of c.in-Some-Directory.field-0-is ∙ contents-directory _))

pub returns-in-None-clause-mark : goal.returns-in-None-clause-mark
returns-in-None-clause-mark c = sym (ap mark_of (contents_at-nothing _ _ _ c.children-children.ensures.replica (omega arith) c.in-None.ensures))

pub returns-in-Some-File-clause-tree : goal.returns-in-Some-File-clause-tree
returns-in-Some-File-clause-tree c = IsTree-replica_of _ _ c.children-children.ensures.replica

pub returns-in-Some-Directory-clause-tree : goal.returns-in-Some-Directory-clause-tree
returns-in-Some-Directory-clause-tree c = IsTree-replica_of _ _ c.children-children.ensures.replica

pub returns-in-None-clause-tree : goal.returns-in-None-clause-tree
returns-in-None-clause-tree c = IsTree-replica_of _ _ c.children-children.ensures.replica

pub returns-then-len-eq0-clause-tree : goal.returns-then-len-eq0-clause-tree
returns-then-len-eq0-clause-tree c = IsTree-replica_of _ _ c.children-children.ensures.replica
