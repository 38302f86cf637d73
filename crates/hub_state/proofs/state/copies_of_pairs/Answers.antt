use Rattle.std.proofs.Common.{◌++◌, ap, ◌∙◌}
use Rattle.hub_state.specs.View.{by_text, by_two}
use Rattle.hub_state.proofs.Maps.{copy_text_more}
use Rattle.hub_state.proofs.state.copies_of_pairs.Goals as goal

pub loop-text-preserved : goal.loop-text-preserved
loop-text-preserved c =
    ap (λ es. by_two es ++ by_two c.next.new.self) c.in_ok-put.ensures.entries
    ∙ copy_text_more (λ m. by_text m.entries) c.loop-text.copies.entries c.loop-text.text-iterator c.next.new.self c.args.pairs.now.entries (c.in-Some.text.now, c.in-Some.archives.now) c.in_ok-clone.field-0 c.in_ok-rows.rows
    c.loop-text.invariant c.in-Some.ensures.steps c.in_ok-clone.ensures.cases c.in_ok-rows.ensures c.iter-text-items.ensures.ordered
