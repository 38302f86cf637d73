use Rattle.std.proofs.Common.{◌++◌, ◌∷◌, [], sym, ap, ◌∙◌, append-nil}
use Rattle.hub_tree.specs.Nodes.{kids_of}
use Rattle.hub_tree.proofs.LookUp.{kids-file, kids-directory}
use Rattle.hub_tree.proofs.Paths.{after, all_paths, node_paths, keys-replica_of, one_more, one_file, one_directory_or_not}
use Rattle.hub_tree.proofs.node.+paths.Goals as goal

pub push_below-returns-in_ok-push-in-File : goal.push_below-returns-in_ok-push-in-File
push_below-returns-in_ok-push-in-File t c =
    one_file c.args.path c.args.node.now c.args.paths.now.items c.push.new.self.items
    (ap kids_of c.in-File.is ∙ kids-file c.in-File.field-0) c.in_ok-push-in-File.ensures.items

pub push_below-returns-in_ok-push-in-Directory : goal.push_below-returns-in_ok-push-in-Directory
push_below-returns-in_ok-push-in-Directory t c =
    one_directory_or_not c.push_paths.result c.args.path c.in_ok-prefix-in-Directory.prefix c.args.node.now c.deref.result.now.entries
    c.args.paths.now.items c.push-in-Directory.new.self.items c.push_paths.new.paths.items
    (ap kids_of c.in-Directory.is ∙ kids-directory c.in-Directory.children ∙ ap (λ m. m.entries) (sym c.deref.ensures)) c.in_ok-prefix-in-Directory.ensures c.in_ok-push-in-Directory.ensures.items
    c.push_paths.ensures

pub push_paths-loop-name-preserved : goal.push_paths-loop-name-preserved
push_paths-loop-name-preserved t c =
    one_more c.args.prefix.now c.in-Some.name.now c.in-Some.node.now c.next.new.self c.loop-name.name-iterator c.loop-name.paths.items c.push_below.new.paths.items
    c.in-Some.ensures.steps
    (c.in_ok-push_below.ensures
    ∙ ap (λ q. c.loop-name.paths.items ++ after q (node_paths c.in-Some.node.now))
    (c.in_ok-path.ensures ∙ ap (λ n. c.args.prefix.now ++ n ∷ []) c.in_ok-copy.ensures))
    ∙ c.loop-name.invariant

pub push_paths-returns : goal.push_paths-returns
push_paths-returns t c =
    sym (append-nil c.loop-name.paths.items)
    ∙ ap (λ cs. c.loop-name.paths.items ++ after c.args.prefix.now (all_paths cs)) (sym c.in-None.ensures.steps.0)
    ∙ c.loop-name.invariant
    ∙ ap (λ ps. c.args.paths.now.items ++ after c.args.prefix.now ps) (sym (keys-replica_of c.args.children.now.entries c.iter-name-items.ensures.ordered))
