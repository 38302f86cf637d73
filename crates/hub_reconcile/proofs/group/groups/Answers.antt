use Rattle.std.proofs.Common.{◌-◌, ◌≤◌, List, take, drop, length, sym, subst, arith}
use Rattle.std.specs.List.{flat_map}
use Rattle.hub_reconcile.specs.forms.Groups.{group_paths}
use Rattle.hub_reconcile.specs.declared.row.Row.{Row}
use Rattle.hub_reconcile.proofs.Cutting.{at_start, first_cut, one_group, all_cut, rows_fit}
use Rattle.hub_reconcile.proofs.group.groups.Goals as goal

pub loop-rest-init : goal.loop-rest-init
loop-rest-init c = at_start c.args.picture.now c.new-groups.result.items c.args.rows.now c.new-groups.ensures.items c.requires

pub loop-rest-preserved : goal.loop-rest-preserved
loop-rest-preserved c =
    let V = c.args.picture.now in
    let rest = c.loop-rest.rest.now in
    let bs = c.loop-rest.groups.items in
    one_group V bs c.first-item.result (take (length rest - 1) (drop 1 rest)) c.loop-rest.invariant.0
    (first_cut V bs rest c.first-item.result c.loop-rest.invariant (omega (arith, c.in-len1-up.len_at_least)) c.first-item.is)
    c.in_ok-group.group c.in_ok-group.ensures.group c.in_ok-group.ensures.first c.in_ok-group.ensures.below
    c.push.new.self.items c.in_ok-push.ensures.items

pub group_of-requires : goal.group_of-requires
group_of-requires c =
    let bs = c.loop-rest.groups.items in
    (flat_map group_paths bs, first_cut c.args.picture.now bs c.loop-rest.rest.now c.first-item.result c.loop-rest.invariant (omega (arith, c.in-len1-up.len_at_least)) c.first-item.is)

pub returns : goal.returns
returns c = all_cut c.args.picture.now c.loop-rest.groups.items c.loop-rest.rest.now c.loop-rest.invariant c.in_default.len_below

pub slice_bounds-rest-count : goal.slice_bounds-rest-count
slice_bounds-rest-count c =
    let rest = c.loop-rest.rest.now in
    let after = take (length rest - 1) (drop 1 rest) in
    subst (λ (rs : List Row). length rs ≤ length after) (sym c.in_ok-group.ensures.below) (rows_fit c.first-item.result after)
