use Rattle.std.proofs.Common.{sym, ap, ◌∙◌, arith}
use Rattle.hub_tree.specs.Nodes.{node_get, kids_of}
use Rattle.hub_tree.proofs.LookUp.{along_none, along_last, along_kids, along_file, kids-file, kids-directory}
use Rattle.std.specs.Option.{option_and_then, option_copied}
use Rattle.hub_tree.proofs.node.+node_at.Goals as goal

pub returns-in_err-node : goal.returns-in_err-node
returns-in_err-node t c = λ q.
    along_none _ c.args.path.now c.args.depth _ q c.name.ensures.name (sym c.in_err-node.ensures.value)
    ∙ sym (ap (λ r. option_and_then (node_get q) (option_copied r)) c.from_residual.ensures)

pub returns-then-depth-len : goal.returns-then-depth-len
returns-then-depth-len t c = λ q. along_last _ c.args.path.now c.args.depth _ q _ c.name.ensures.name (omega arith) (sym c.in_ok-node.ensures.value)

pub returns-in-File : goal.returns-in-File
returns-in-File t c = λ q. along_file _ c.args.path.now c.args.depth _ q _ c.name.ensures.name (omega arith) (sym c.in_ok-node.ensures.value) (ap kids_of c.in-File.is ∙ kids-file _)

pub returns-in-Directory : goal.returns-in-Directory
returns-in-Directory t c = λ q. along_kids _ c.args.path.now c.args.depth _ q _ _ c.name.ensures.name (omega arith) (sym c.in_ok-node.ensures.value) (ap kids_of c.in-Directory.is ∙ kids-directory c.in-Directory.inner ∙ ap (λ m. m.entries) (sym c.deref.ensures)) ∙ c.node_at.ensures q
