use Rattle.std.proofs.Common.{◌+◌, sym, ap, ◌∙◌, drop, arith}
use Rattle.std.specs.Arc.{arc_value}
use Rattle.hub_tree.specs.Nodes.{replica_of, kids_of, contents_of}
use Rattle.hub_tree.specs.Tree.{set_fault}
use Rattle.hub_tree.proofs.LookUp.{drop_at, last_rest, rest_left, contents-file, contents-directory, kids-directory}
use Rattle.hub_tree.proofs.Setting.{fault_through, fault_nowhere, fault_below-directory, fault_below-file}
use Rattle.hub_tree.proofs.node.+fault_at.Goals as goal

pub returns-then-depth-len : goal.returns-then-depth-len
returns-then-depth-len t c =
    c.fault_of_child.ensures
    ∙ ap (λ q. set_fault (replica_of c.args.children.now.entries) q c.args.contents.now) (last_rest c.args.path.now c.args.depth _ c.name-name.ensures.name (omega arith))

pub returns-in-Some-Directory : goal.returns-in-Some-Directory
returns-in-Some-Directory t c =
    let cs = c.args.children.now.entries in
    let p = c.args.path.now in
    c.fault_at.ensures
    ∙ sym (ap (λ q. set_fault (replica_of cs) q c.args.contents.now) (drop_at p c.args.depth _ c.name-name.ensures.name)
    ∙ fault_through cs c.name-name.result.now (drop (c.args.depth + 1) p) c.in-Some-Directory.field-0.now c.args.contents.now (rest_left p _ (omega arith)) (sym c.in-Some-Directory.ensures.value)
    ∙ fault_below-directory c.in-Some-Directory.field-0.now c.deref.result.now.entries (drop (c.args.depth + 1) p) c.args.contents.now
    (ap contents_of c.in-Some-Directory.field-0-is ∙ contents-directory c.in-Some-Directory.inner) (ap kids_of c.in-Some-Directory.field-0-is ∙ kids-directory c.in-Some-Directory.inner ∙ ap (λ m. m.entries) (sym (c.deref.ensures ∙ ap (λ s. arc_value s) c.in-Some-Directory.inner-is))))

pub returns-in-Some-File : goal.returns-in-Some-File
returns-in-Some-File t c =
    let cs = c.args.children.now.entries in
    let p = c.args.path.now in
    sym (ap (λ q. set_fault (replica_of cs) q c.args.contents.now) (drop_at p c.args.depth _ c.name-name.ensures.name)
    ∙ fault_through cs c.name-name.result.now (drop (c.args.depth + 1) p) c.in-Some-File.field-0.now c.args.contents.now (rest_left p _ (omega arith)) (sym c.in-Some-File.ensures.value)
    ∙ fault_below-file c.in-Some-File.field-0.now c.in-Some-File.field-0-0 (drop (c.args.depth + 1) p) c.args.contents.now
    (ap contents_of c.in-Some-File.field-0-is ∙ contents-file c.in-Some-File.field-0-0))

pub returns-in-None : goal.returns-in-None
returns-in-None t c =
    let cs = c.args.children.now.entries in
    let p = c.args.path.now in
    sym (ap (λ q. set_fault (replica_of cs) q c.args.contents.now) (drop_at p c.args.depth _ c.name-name.ensures.name)
    ∙ fault_nowhere cs c.name-name.result.now (drop (c.args.depth + 1) p) c.args.contents.now (rest_left p _ (omega arith)) (sym c.in-None.ensures.value))
