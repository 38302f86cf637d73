use Rattle.std.specs.FinMap as fin
use Rattle.hub_path.specs.Path.{Path}
use Rattle.hub_tree.specs.Stored.{stored_contents}
use Rattle.hub_tree.specs.declared.contents.Contents.{Contents}
use Rattle.hub_state.specs.Writing.{contents_files}
use Rattle.hub_state.proofs.Files.{collected_more, collected_stop}
use Rattle.hub_state.proofs.Passing.{next_entry}
use Rattle.hub_state.proofs.blobs.Blobs.add_files.Goals as goal

pub returns-then-not-added : goal.returns-then-not-added
returns-then-not-added c =
    collected_stop (λ (e : Path × Contents). contents_files e.1) c.args.self.now c.loop-entry.self c.add_stored.new.self c.loop-entry.entry-iterator c.next.new.self (fin.entries c.args.tree.now)
    (c.in_ok-_place._place, stored_contents c.in_ok-_place.stored) c.in_ok-added.added c.loop-entry.invariant
    (next_entry c.loop-entry.entry-iterator c.next.new.self c.in-Some.entry (c.in_ok-_place._place, c.in_ok-_place.stored) c.in-Some.ensures.steps c.in_ok-_place.was) c.if-not-added.true c.in_ok-added.ensures

pub loop-entry-preserved : goal.loop-entry-preserved
loop-entry-preserved c =
    collected_more (λ (e : Path × Contents). contents_files e.1) c.args.self.now c.loop-entry.self c.add_stored.new.self c.loop-entry.entry-iterator c.next.new.self (fin.entries c.args.tree.now)
    (c.in_ok-_place._place, stored_contents c.in_ok-_place.stored) c.in_ok-added.added c.loop-entry.invariant
    (next_entry c.loop-entry.entry-iterator c.next.new.self c.in-Some.entry (c.in_ok-_place._place, c.in_ok-_place.stored) c.in-Some.ensures.steps c.in_ok-_place.was) c.if-not-added.false c.in_ok-added.ensures

pub loop-entry-preserved-else-not-added : goal.loop-entry-preserved-else-not-added
loop-entry-preserved-else-not-added c =
    collected_more (λ (e : Path × Contents). contents_files e.1) c.args.self.now c.loop-entry.self c.add_stored.new.self c.loop-entry.entry-iterator c.next.new.self (fin.entries c.args.tree.now)
    (c.in_ok-_place._place, stored_contents c.in_ok-_place.stored) c.in_ok-added.added c.loop-entry.invariant
    (next_entry c.loop-entry.entry-iterator c.next.new.self c.in-Some.entry (c.in_ok-_place._place, c.in_ok-_place.stored) c.in-Some.ensures.steps c.in_ok-_place.was) c.if-not-added.false c.in_ok-added.ensures
