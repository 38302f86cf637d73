use Rattle.std.proofs.Common.{sym, ap, ◌∙◌, arith, Some}
use Rattle.hub_tree.specs.Tree.{bytes_of}
use Rattle.hub_tree.specs.Nodes.{contents_of}
use Rattle.hub_tree.proofs.LookUp.{contents_at-node, contents_at-nothing, contents-file, contents-directory}
use Rattle.hub_tree.proofs.tree.Tree.blob_at.Goals as goal

pub returns-in-Some-File : goal.returns-in-Some-File
returns-in-Some-File c = ap Some (c.in-Some-File.blob-is) ∙ sym (ap bytes_of (contents_at-node _ _ _ _ c.children.ensures.replica (omega arith) c.in-Some-File.ensures ∙ ap contents_of c.in-Some-File.field-0-is ∙ contents-file _))

pub returns-in-Some-Directory : goal.returns-in-Some-Directory
returns-in-Some-Directory c = sym (ap bytes_of (contents_at-node _ _ _ _ c.children.ensures.replica (omega arith) c.in-Some-Directory.ensures ∙ ap contents_of c.in-Some-Directory.field-0-is ∙ contents-directory _))

pub returns-in-None : goal.returns-in-None
returns-in-None c = sym (ap bytes_of (contents_at-nothing _ _ _ c.children.ensures.replica (omega arith) c.in-None.ensures))
