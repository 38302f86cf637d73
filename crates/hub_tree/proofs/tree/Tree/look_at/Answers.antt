use Rattle.std.proofs.Common.{sym, ap, ◌∙◌, arith, Some}
use Rattle.std.specs.Arc.{arc_value}
use Rattle.sha2.specs.Sha256.{sha256}
use Rattle.hub_tree.specs.Tree.{mark_of, bytes_of}
use Rattle.hub_tree.specs.Nodes.{contents_of, kids_of}
use Rattle.hub_tree.specs.declared.contents.Mark.TheVariants.{File}
use Rattle.hub_tree.proofs.LookUp.{contents_at-node, contents_at-nothing, contents-file, contents-directory, kids-file, kids-directory}
use Rattle.hub_tree.proofs.Names.{names_at-top, names_at-node, names_at-file, names_at-nothing}
use Rattle.hub_tree.proofs.tree.Tree.look_at.Goals as goal

pub returns-then-len-eq0-clause-names : goal.returns-then-len-eq0-clause-names
returns-then-len-eq0-clause-names c =
    c.in_ok-names_of.ensures.names
    ∙ sym (names_at-top c.children-children.result.now.entries _ c.args.path.now c.children-children.ensures.replica (omega arith) c.names_of.ensures.ordered)

pub returns-in-Some-File-clause-mark : goal.returns-in-Some-File-clause-mark
returns-in-Some-File-clause-mark c = ap File (c.digest.ensures ∙ ap sha256 c.in-Some-File.blob-is) ∙ sym (ap mark_of (contents_at-node _ _ _ _ c.children-children.ensures.replica (omega arith) c.in-Some-File.ensures ∙ ap contents_of c.in-Some-File.field-0-is ∙ contents-file _))

pub returns-in-Some-File-clause-names : goal.returns-in-Some-File-clause-names
returns-in-Some-File-clause-names c =
    c.new.ensures
    ∙ sym (names_at-file c.children-children.result.now.entries _ c.args.path.now c.in-Some-File.field-0.now c.children-children.ensures.replica (ap kids_of c.in-Some-File.field-0-is ∙ kids-file _) c.in-Some-File.ensures)

pub returns-in_ok-names_of-in-Some-Directory-clause-mark : goal.returns-in_ok-names_of-in-Some-Directory-clause-mark
returns-in_ok-names_of-in-Some-Directory-clause-mark c = sym (ap mark_of (contents_at-node _ _ _ _ c.children-children.ensures.replica (omega arith) c.in-Some-Directory.ensures ∙ ap contents_of c.in-Some-Directory.field-0-is ∙ contents-directory _))

pub returns-in_ok-names_of-in-Some-Directory-clause-names : goal.returns-in_ok-names_of-in-Some-Directory-clause-names
returns-in_ok-names_of-in-Some-Directory-clause-names c =
    c.in_ok-names_of-in-Some-Directory.ensures.names
    ∙ sym (names_at-node c.children-children.result.now.entries c.deref.result.now.entries _ c.args.path.now c.in-Some-Directory.field-0.now c.children-children.ensures.replica
    (ap kids_of c.in-Some-Directory.field-0-is ∙ kids-directory _
    ∙ ap (λ m. m.entries) (sym (c.deref.ensures ∙ ap (λ s. arc_value s) c.in-Some-Directory.inner-is)))
    c.in-Some-Directory.ensures c.names_of-in-Some-Directory.ensures.ordered)

pub returns-in-None-clause-mark : goal.returns-in-None-clause-mark
returns-in-None-clause-mark c = sym (ap mark_of (contents_at-nothing _ _ _ c.children-children.ensures.replica (omega arith) c.in-None.ensures))

pub returns-in-None-clause-names : goal.returns-in-None-clause-names
returns-in-None-clause-names c = c.new-in-None.ensures ∙ sym (names_at-nothing c.children-children.result.now.entries _ c.args.path.now c.children-children.ensures.replica c.in-None.ensures)

pub returns-in-Some-File-clause-file : goal.returns-in-Some-File-clause-file
returns-in-Some-File-clause-file c = ap Some (c.in-Some-File.blob-is) ∙ sym (ap bytes_of (contents_at-node _ _ _ _ c.children-children.ensures.replica (omega arith) c.in-Some-File.ensures ∙ ap contents_of c.in-Some-File.field-0-is ∙ contents-file _))

pub returns-in_ok-names_of-in-Some-Directory-clause-file : goal.returns-in_ok-names_of-in-Some-Directory-clause-file
returns-in_ok-names_of-in-Some-Directory-clause-file c = sym (ap bytes_of (contents_at-node _ _ _ _ c.children-children.ensures.replica (omega arith) c.in-Some-Directory.ensures ∙ ap contents_of c.in-Some-Directory.field-0-is ∙ contents-directory _))

pub returns-in-None-clause-file : goal.returns-in-None-clause-file
returns-in-None-clause-file c = sym (ap bytes_of (contents_at-nothing _ _ _ c.children-children.ensures.replica (omega arith) c.in-None.ensures))
