use Rattle.std.proofs.Common.{◌++◌, ap, ◌∙◌}
use Rattle.hub_state.specs.View.{by_text}
use Rattle.hub_state.proofs.Maps.{copy_text_more}
use Rattle.hub_state.proofs.state.copies_of_replicas.Goals as goal

pub loop-text-preserved : goal.loop-text-preserved
loop-text-preserved c =
    ap (λ es. by_text es ++ by_text c.next.new.self) c.in_ok-put.ensures.entries
    ∙ copy_text_more (λ x. x) c.loop-text.copies.entries c.loop-text.text-iterator c.next.new.self c.args.replicas.now.entries (c.in-Some.text.now, c.in-Some.tree.now) c.in_ok-clone.field-0 c.in_ok-copy.field-0
    c.loop-text.invariant c.in-Some.ensures.steps c.in_ok-clone.ensures.cases c.in_ok-copy.ensures c.iter-text-items.ensures.ordered
