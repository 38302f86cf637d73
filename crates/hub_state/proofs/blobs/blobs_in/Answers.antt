use Rattle.std.proofs.Common.{List, [], ◌++◌, Some, String, Global, sym, ap, ◌∙◌, append-nil}
use Rattle.std.specs.FinMap as fin
use Rattle.std.specs.List.{flat_map}
use Rattle.hub_tree.specs.Tree.{Replica}
use Rattle.hub_state.specs.forms.Adding.{files_added}
use Rattle.hub_state.proofs.Files.{collected_more, collected_stop, tree_files, files-by_text}
use Rattle.hub_state.proofs.blobs.blobs_in.Goals as goal

pub loop-root-init : goal.loop-root-init
loop-root-init c = ([], c.into_iter-root-iterator.ensures.into_iter_gives ∙ c.iter-root-items.ensures.rest, ap Some c.new-blobs.ensures)

pub loop-root-preserved : goal.loop-root-preserved
loop-root-preserved c =
    collected_more tree_files fin.empty c.loop-root.blobs c.add_files.new.self c.loop-root._root-iterator c.next.new.self c.args.replicas.now.entries
    (c.in-Some._root.now, c.in-Some.tree.now) c.in_ok-added.added c.loop-root.invariant c.in-Some.ensures.steps c.if-not-added.false c.in_ok-added.ensures

pub returns-then-not-added : goal.returns-then-not-added
returns-then-not-added c =
    collected_stop tree_files fin.empty c.loop-root.blobs c.add_files.new.self c.loop-root._root-iterator c.next.new.self c.args.replicas.now.entries
    (c.in-Some._root.now, c.in-Some.tree.now) c.in_ok-added.added c.loop-root.invariant c.in-Some.ensures.steps c.if-not-added.true c.in_ok-added.ensures
    ∙ sym (ap (files_added (Some fin.empty)) (files-by_text c.args.replicas.now.entries))

pub returns : goal.returns
returns c =
    let inv = c.loop-root.invariant in
    inv.2
    ∙ ap (λ (es : List (String Global × Replica)). files_added (Some fin.empty) (flat_map tree_files es))
    (sym (append-nil inv.0) ∙ ap (λ (r : List (String Global × Replica)). inv.0 ++ r) (sym c.in-None.ensures.steps.0) ∙ inv.1)
    ∙ sym (ap (files_added (Some fin.empty)) (files-by_text c.args.replicas.now.entries))
