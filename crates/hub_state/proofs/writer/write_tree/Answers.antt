use Rattle.std.proofs.Common.{refl, ◌∙◌}
use Rattle.std.specs.FinMap as fin
use Rattle.hub_state.proofs.Passing.{entries_text, wrote-entry, wrote-nothing, wrote-all}
use Rattle.hub_state.proofs.writer.write_tree.Goals as goal

pub loop-entry-init : goal.loop-entry-init
loop-entry-init g c =
    wrote-nothing (entries_text c.args.version) (g.W.Write.contents c.args.output.now.device) c.args.text.now.items _ (fin.entries c.args.tree.now) c.args.output.now.failed refl (c.into_iter-entry-iterator.ensures.into_iter_gives ∙ c.in_ok-entry-items.ensures) c.requires

pub loop-entry-preserved : goal.loop-entry-preserved
loop-entry-preserved g c =
    wrote-entry c.args.version (g.W.Write.contents c.args.output.now.device) (g.W.Write.contents c.loop-entry.output.device) (g.W.Write.contents c.write_entry.new.output.device)
    c.args.text.now.items c.loop-entry.text.items c.write_entry.new.text.items c.loop-entry.entry-iterator c.next.new.self (fin.entries c.args.tree.now)
    c.in-Some.entry (c.in_ok-path.path, c.in_ok-path.stored) c.loop-entry.output.failed c.write_entry.new.output.failed
    c.loop-entry.invariant c.in-Some.ensures.steps c.in_ok-path.was c.in_ok-write_entry.ensures.ok c.in_ok-write_entry.ensures.failed

pub loop-entry-preserved-in_ok-write_entry : goal.loop-entry-preserved-in_ok-write_entry
loop-entry-preserved-in_ok-write_entry g c =
    wrote-entry c.args.version (g.W.Write.contents c.args.output.now.device) (g.W.Write.contents c.loop-entry.output.device) (g.W.Write.contents c.write_entry.new.output.device)
    c.args.text.now.items c.loop-entry.text.items c.write_entry.new.text.items c.loop-entry.entry-iterator c.next.new.self (fin.entries c.args.tree.now)
    c.in-Some.entry (c.in_ok-path.path, c.in_ok-path.stored) c.loop-entry.output.failed c.write_entry.new.output.failed
    c.loop-entry.invariant c.in-Some.ensures.steps c.in_ok-path.was c.in_ok-write_entry.ensures.ok c.in_ok-write_entry.ensures.failed

pub returns-clause-ok : goal.returns-clause-ok
returns-clause-ok g c =
    wrote-all (entries_text c.args.version) (g.W.Write.contents c.args.output.now.device) (g.W.Write.contents c.loop-entry.output.device) c.args.text.now.items c.loop-entry.text.items
    c.loop-entry.entry-iterator (fin.entries c.args.tree.now) c.loop-entry.output.failed c.loop-entry.invariant c.in-None.ensures.steps.0
