use Rattle.std.proofs.Common.{ap, sym, ◌∙◌, arith}
use Rattle.std.specs.Ordering.{is_lt}
use Rattle.hub_reconcile.proofs.Halves.{front_part_rises, back_part_rises, sight_in_front, sight_in_back}
use Rattle.hub_reconcile.proofs.parent.half_with.Goals as goal

pub returns-in-len1-up-clause-sight : goal.returns-in-len1-up-clause-sight
returns-in-len1-up-clause-sight c =
    sight_in_front _ c.args.looks.now c.split_at.result.0.now c.split_at.result.1.now c.split_at.ensures.front c.split_at.ensures.back c.requires.rising
    c.args.path.now c.look-item.result (omega (arith, c.in-len1-up.len_at_least)) c.look-item.is
    (sym (c.is_lt.ensures ∙ ap is_lt c.cmp.ensures) ∙ c.if-is_lt.true)

pub returns-in-len1-up-clause-rising : goal.returns-in-len1-up-clause-rising
returns-in-len1-up-clause-rising c =
    front_part_rises _ c.args.looks.now c.split_at.result.0.now c.split_at.result.1.now c.split_at.ensures.front c.split_at.ensures.back c.requires.rising

pub returns-in_default-2-clause-sight : goal.returns-in_default-2-clause-sight
returns-in_default-2-clause-sight c =
    sight_in_back _ c.args.looks.now c.split_at.result.0.now c.split_at.result.1.now c.split_at.ensures.front c.split_at.ensures.back c.requires.rising
    c.args.path.now c.look-item.result (omega (arith, c.in-len1-up.len_at_least)) c.look-item.is
    (sym (c.is_lt.ensures ∙ ap is_lt c.cmp.ensures) ∙ c.if-is_lt.false)

pub returns-in_default-2-clause-rising : goal.returns-in_default-2-clause-rising
returns-in_default-2-clause-rising c =
    back_part_rises _ c.args.looks.now c.split_at.result.0.now c.split_at.result.1.now c.split_at.ensures.front c.split_at.ensures.back c.requires.rising
