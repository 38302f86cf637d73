use Rattle.std.proofs.Common.{[], refl}
use Rattle.std.specs.List.{flat_map}
use Rattle.hub_state.specs.Writing.{joined_lines}
use Rattle.hub_state.proofs.Passing.{block_more, wrote-nothing, wrote-more, wrote-all}
use Rattle.hub_state.proofs.writer.write_lines.Goals as goal

pub loop-key-init : goal.loop-key-init
loop-key-init g c =
    wrote-nothing (λ es. joined_lines (flat_map g.V.HasLines.lines es)) (g.W.Write.contents c.args.output.now.device) c.args.text.now.items _ c.args.entries c.args.output.now.failed refl c.into_iter-key-iterator.ensures.into_iter_gives c.requires

pub loop-key-preserved : goal.loop-key-preserved
loop-key-preserved g c =
    let x : _ × _ = (c.in-Some.key.now, c.in-Some.value.now) in
    wrote-more (λ es. joined_lines (flat_map g.V.HasLines.lines es))
    (g.W.Write.contents c.args.output.now.device) (g.W.Write.contents c.loop-key.output.device) (g.W.Write.contents c.pass_block.new.output.device)
    c.args.text.now.items c.loop-key.text.items c.push_lines.new.text.items c.pass_block.new.text.items (joined_lines (g.V.HasLines.lines x)) []
    c.loop-key.key-iterator c.next.new.self c.args.entries x c.loop-key.output.failed c.pass_block.new.output.failed
    c.loop-key.invariant (c.in-Some.ensures.steps) (c.in_ok-push_lines.ensures) c.in_ok-pass_block.ensures.ok (block_more g.V.HasLines.lines x) c.in_ok-pass_block.ensures.failed

pub returns-clause-ok : goal.returns-clause-ok
returns-clause-ok g c =
    wrote-all (λ es. joined_lines (flat_map g.V.HasLines.lines es)) (g.W.Write.contents c.args.output.now.device) (g.W.Write.contents c.loop-key.output.device) c.args.text.now.items c.loop-key.text.items
    c.loop-key.key-iterator c.args.entries c.loop-key.output.failed c.loop-key.invariant c.in-None.ensures.steps.0
