use Rattle.std.proofs.Common.{ℕ, List, [], ◌∷◌, ◌++◌, String, Global, string_bytes, refl, sym, ap, ◌∙◌}
use Rattle.std.specs.List.{flat_map}
use Rattle.hub_tree.specs.Tree.{Archive}
use Rattle.hub_state.specs.State.{Text}
use Rattle.hub_state.specs.View.{by_text, pairs_below}
use Rattle.hub_state.specs.Writing.{archive_lines, pair_lines, mark_lines, joined_lines}
use Rattle.hub_state.proofs.Passing.{below_more, joined-append, wrote-nothing, wrote-more, wrote-all}
use Rattle.hub_state.proofs.writer.write_pairs.Goals as goal

pub loop-second-init : goal.loop-second-init
loop-second-init g c =
    wrote-nothing (λ (es : List (String Global × Archive)). joined_lines (flat_map archive_lines (pairs_below c.args.first.now (by_text es)))) (g.W.Write.contents c.args.output.now.device) c.args.text.now.items _ c.args.others.now.entries c.args.output.now.failed refl (c.into_iter-second-iterator.ensures.into_iter_gives ∙ c.iter-second-items.ensures.rest) c.requires

pub loop-second-preserved : goal.loop-second-preserved
loop-second-preserved g c =
    let a : Text = c.args.first.now in
    let x : String Global × Archive = (c.in-Some.second.now, c.in-Some.archive.now) in
    let k : List Text = a ∷ string_bytes x.0 ∷ [] in
    let ms : List (List ℕ) = flat_map mark_lines c.iter.result in
    wrote-more (λ (es : List (String Global × Archive)). joined_lines (flat_map archive_lines (pairs_below c.args.first.now (by_text es))))
    (g.W.Write.contents c.args.output.now.device) (g.W.Write.contents c.loop-second.output.device) (g.W.Write.contents c.write_lines.new.output.device)
    c.args.text.now.items c.loop-second.text.items c.push_pair.new.text.items c.write_lines.new.text.items (joined_lines (pair_lines k)) (joined_lines ms)
    c.loop-second.second-iterator c.next.new.self c.args.others.now.entries x c.loop-second.output.failed c.write_lines.new.output.failed
    c.loop-second.invariant (c.in-Some.ensures.steps) (c.in_ok-push_pair.ensures ∙ ap (λ (u : Text). c.loop-second.text.items ++ joined_lines (pair_lines (a ∷ u ∷ []))) c.as_str.ensures.value) c.in_ok-write_lines.ensures.ok (λ es. below_more archive_lines a es x ∙ ap (λ (u : List ℕ). joined_lines (flat_map archive_lines (pairs_below a (by_text es))) ++ u) (ap (λ es. joined_lines (pair_lines k ++ flat_map mark_lines es)) (sym c.iter.ensures) ∙ joined-append (pair_lines k) ms)) c.in_ok-write_lines.ensures.failed

pub returns-clause-ok : goal.returns-clause-ok
returns-clause-ok g c =
    wrote-all (λ (es : List (String Global × Archive)). joined_lines (flat_map archive_lines (pairs_below c.args.first.now (by_text es)))) (g.W.Write.contents c.args.output.now.device) (g.W.Write.contents c.loop-second.output.device) c.args.text.now.items c.loop-second.text.items
    c.loop-second.second-iterator c.args.others.now.entries c.loop-second.output.failed c.loop-second.invariant c.in-None.ensures.steps.0
