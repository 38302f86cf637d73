use Rattle.std.proofs.Common.{◌≡◌, ◌∙◌, ◌+◌, List, length, Some, slice_get, refl, ap, sym, subst, length-append, arith}
use Rattle.std.proofs.lemmas.Option.{slice_get_read}
use Rattle.hub_schedule.specs.declared.slot.Slot.{Slot}
use Rattle.hub_schedule.proofs.Opened.{AreOpened, opened_more, opened_table, open_at}
use Rattle.hub_schedule.proofs.slots.slots_for.Goals as goal

pub loop-profile-preserved : goal.loop-profile-preserved
loop-profile-preserved c =
    let S = c.args.state.now in
    let Ps = c.args.profiles.now in
    let P = c.profile-item.result in
    let i = c.loop-profile.profile-index in
    let inv = c.loop-profile.invariant in
    let slots = c.loop-profile.slots.items in
    let number : c.len.result ≡ length slots = omega (arith, c.len.ensures, c.loop-profile.slots.ok.0) in
    let at : slice_get Ps i ≡ Some P = slice_get_read Ps _ i P refl c.loop-profile-test.true c.profile-item.is in
    record {
      opened = subst (λ (ss : List Slot). AreOpened S Ps ss c.slot_for.new.trees.items) (sym c.in_ok-push.ensures.items)
          (opened_more S Ps slots c.loop-profile.trees.items c.slot_for.new.trees.items P c.in_ok-slot.slot inv.opened (ap (slice_get Ps) inv.count ∙ at)
          (open_at S c.slot_for.new.trees.items c.len.result (length slots) P c.in_ok-slot.slot number c.in_ok-slot.ensures.slot c.in_ok-slot.ensures.left c.in_ok-slot.ensures.right)
          c.in_ok-slot.ensures.trees c.in_ok-slot.ensures.more);
      count = ap length c.in_ok-push.ensures.items ∙ length-append slots _ ∙ ap (λ n. n + 1) inv.count;
    }

pub returns-clause-table : goal.returns-clause-table
returns-clause-table c =
    let inv = c.loop-profile.invariant in
    let past = c.loop-profile-test.false in
    let end = c.loop-profile.auto.profile-index-end in
    opened_table c.args.state.now c.args.profiles.now c.loop-profile.slots.items c.loop-profile.trees.items inv.opened (let n = inv.count in omega arith)
