use Rattle.std.proofs.Common.{sym, ap, ◌∙◌, arith}
use Rattle.std.proofs.lemmas.Result.{IfOk-weaker}
use Rattle.std.specs.Arc.{arc_value}
use Rattle.hub_tree.specs.Nodes.{kids_of}
use Rattle.hub_tree.proofs.LookUp.{kids-file, kids-directory}
use Rattle.hub_tree.proofs.Names.{names_at-top, names_at-node, names_at-file, names_at-nothing}
use Rattle.hub_tree.proofs.tree.Tree.names_at.Goals as goal

pub returns-then-len-eq0 : goal.returns-then-len-eq0
returns-then-len-eq0 c =
    IfOk-weaker c.names_of.result _ _
    (λ ns h. h ∙ sym (names_at-top c.children.result.now.entries _ c.args.path.now c.children.ensures.replica (omega arith) c.names_of.ensures.ordered))
    c.names_of.ensures.names

pub returns-in-Some-Directory : goal.returns-in-Some-Directory
returns-in-Some-Directory c =
    IfOk-weaker c.names_of-in-Some-Directory.result _ _
    (λ ns h. h
    ∙ sym (names_at-node c.children-2.result.now.entries c.deref.result.now.entries _ c.args.path.now c.in-Some-Directory.field-0.now c.children-2.ensures.replica
    (ap kids_of c.in-Some-Directory.field-0-is ∙ kids-directory c.in-Some-Directory.children
    ∙ ap (λ m. m.entries) (sym (c.deref.ensures ∙ ap (λ s. arc_value s) c.in-Some-Directory.children-is)))
    c.in-Some-Directory.ensures c.names_of-in-Some-Directory.ensures.ordered))
    c.names_of-in-Some-Directory.ensures.names

pub returns-in-Some-File : goal.returns-in-Some-File
returns-in-Some-File c =
    c.new.ensures
    ∙ sym (names_at-file c.children-2.result.now.entries _ c.args.path.now c.in-Some-File.field-0.now c.children-2.ensures.replica (ap kids_of c.in-Some-File.field-0-is ∙ kids-file c.in-Some-File.field-0-0) c.in-Some-File.ensures)

pub returns-in-None : goal.returns-in-None
returns-in-None c = c.new-in-None.ensures ∙ sym (names_at-nothing c.children-2.result.now.entries _ c.args.path.now c.children-2.ensures.replica c.in-None.ensures)
