use Rattle.std.proofs.Common.{ℕ, List, [], ◌∷◌, ◌++◌, String, Global, string_bytes, refl, ap, ◌∙◌}
use Rattle.std.specs.Prelude.{codes}
use Rattle.std.specs.FinMap as fin
use Rattle.std.specs.List.{flat_map}
use Rattle.hub_tree.specs.Tree.{Replica}
use Rattle.hub_state.specs.View.{by_text}
use Rattle.hub_state.specs.Writing.{replica_lines, contents_lines, joined_lines}
use Rattle.hub_state.proofs.Passing.{lines_more, wrote-nothing, wrote-more, wrote-all}
use Rattle.hub_state.proofs.writer.write_replicas.Goals as goal

pub loop-root-init : goal.loop-root-init
loop-root-init g c =
    wrote-nothing (λ (es : List (String Global × Replica)). joined_lines (flat_map (replica_lines c.args.version) (by_text es))) (g.W.Write.contents c.args.output.now.device) c.args.text.now.items _ c.args.replicas.now.entries c.args.output.now.failed refl (c.into_iter-root-iterator.ensures.into_iter_gives ∙ c.iter-root-items.ensures.rest) c.requires

pub loop-root-preserved : goal.loop-root-preserved
loop-root-preserved g c =
    let x : String Global × Replica = (c.in-Some.root.now, c.in-Some.tree.now) in
    wrote-more (λ (es : List (String Global × Replica)). joined_lines (flat_map (replica_lines c.args.version) (by_text es)))
    (g.W.Write.contents c.args.output.now.device) (g.W.Write.contents c.loop-root.output.device) (g.W.Write.contents c.write_tree.new.output.device)
    c.args.text.now.items c.loop-root.text.items c.push_root.new.text.items c.write_tree.new.text.items (codes "replica " ++ string_bytes x.0 ++ 10 ∷ []) (joined_lines (flat_map (contents_lines c.args.version) (fin.entries x.1)))
    c.loop-root.root-iterator c.next.new.self c.args.replicas.now.entries x c.loop-root.output.failed c.write_tree.new.output.failed
    c.loop-root.invariant (c.in-Some.ensures.steps) (c.in_ok-push_root.ensures ∙ ap (λ (t : List ℕ). c.loop-root.text.items ++ (codes "replica " ++ t ++ 10 ∷ [])) c.as_str.ensures.value) c.in_ok-write_tree.ensures.ok (λ es. lines_more (replica_lines c.args.version) es x) c.in_ok-write_tree.ensures.failed

pub returns-clause-ok : goal.returns-clause-ok
returns-clause-ok g c =
    wrote-all (λ (es : List (String Global × Replica)). joined_lines (flat_map (replica_lines c.args.version) (by_text es))) (g.W.Write.contents c.args.output.now.device) (g.W.Write.contents c.loop-root.output.device) c.args.text.now.items c.loop-root.text.items
    c.loop-root.root-iterator c.args.replicas.now.entries c.loop-root.output.failed c.loop-root.invariant c.in-None.ensures.steps.0
