use Rattle.std.proofs.Common.{◌∙◌}
use Rattle.hub_schedule.proofs.Places.{both_put, left_is, right_is}
use Rattle.hub_schedule.proofs.slots.slot_for.Goals as goal

pub returns-clause-left : goal.returns-clause-left
returns-clause-left c =
    let p = c.in_ok-left.ensures.placed in
    let P = c.args.profile.now in
    (p.0, c.in_ok-right.ensures.more c.in_ok-left.left p.0 p.1, p.2 ∙ left_is P c.roots-roots.ensures.valid c.roots-roots.result.now c.roots-roots.ensures.value c.index-roots-0.result)

pub returns-clause-right : goal.returns-clause-right
returns-clause-right c =
    let p = c.in_ok-right.ensures.placed in
    let P = c.args.profile.now in
    (p.0, p.1, p.2 ∙ right_is P c.roots-roots.ensures.valid c.roots-roots.result.now c.roots-roots.ensures.value c.index-roots-1.result)

pub returns-clause-more : goal.returns-clause-more
returns-clause-more c =
    let P = c.args.profile.now in
    let facts = c.roots-roots.ensures.valid in
    let rs = c.roots-roots.result.now in
    let is = c.roots-roots.ensures.value in
    both_put P facts c.args.trees.now.items c.place_for.new.trees.items c.place_for-2.new.trees.items _ _ (left_is P facts rs is c.index-roots-0.result) (right_is P facts rs is c.index-roots-1.result)
    c.in_ok-left.ensures.more c.in_ok-left.ensures.rest c.in_ok-right.ensures.more c.in_ok-right.ensures.rest
