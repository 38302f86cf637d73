use Rattle.std.proofs.Common.{◌≡◌, ◌<◌, ℕ, length, Some, slice_get, refl, ap, sym, ◌∙◌, subst, length-set, arith}
use Rattle.std.proofs.lemmas.Bool.{false≢true}
use Rattle.std.proofs.lemmas.Option.{slice_get_read}
use Rattle.hub_schedule.specs.declared.slot.Slot.{Slot}
use Rattle.hub_schedule.specs.Table.{place_on, with_job}
use Rattle.hub_schedule.proofs.Turning.{answer_asks, asks_going, busy, idle, no_other_stopped, not_asked, place_same, same_places, stay_stopped, still_placed, turn_asks, would_ask}
use Rattle.hub_schedule.proofs.turn.take_turn.Goals as goal

pub index_mut-requires : goal.index_mut-requires
index_mut-requires c =
    let slots = c.args.slots.now.items in
    let s = c.index_mut-slot.result.now in
    let at : slice_get slots c.args.number ≡ Some s = slice_get_read slots _ c.args.number s refl c.requires.number c.index_mut-slot.ensures.value in
    let place : c.place-place.result ≡ place_on s c.in-Ask.side = c.place-place.ensures ∙ place_same s c.turn.new.self c.in-Ask.side in
    let below = c.requires.placed c.args.number s c.in-Ask.side at in
    omega (arith, place, below, c.args.trees.now.ok.0)

pub returns-in-Ask : goal.returns-in-Ask
returns-in-Ask c =
    let slots = c.args.slots.now.items in
    let trees = c.args.trees.now.items in
    let j = c.args.number in
    let s = c.index_mut-slot.result.now in
    let t : Slot = with_job s c.turn.new.self in
    let n = c.turn.result in
    let side = c.in-Ask.side in
    let op = c.in-Ask.op in
    let k = c.place-place.result in
    let u = c.index_mut.result.now in
    let v = c.answer.new.slot in
    let at : slice_get slots j ≡ Some s = slice_get_read slots _ j s refl c.requires.number c.index_mut-slot.ensures.value in
    let going = asks_going c.turn.new.self.stopped n side op c.in-Ask.is c.turn.ensures.stopped in
    let place : k ≡ place_on s side = c.place-place.ensures ∙ place_same s c.turn.new.self side in
    let below : k < length trees = subst (λ (i : ℕ). i < length trees) (sym place) (c.requires.placed j s side at) in
    let there : slice_get trees k ≡ Some u = slice_get_read trees _ k u refl below c.index_mut.ensures.value in
    let kept = still_placed slots trees j s v at (λ i. same_places t v _ _ _ _ c.answer.ensures.lost c.answer.ensures.made i ∙ place_same s c.turn.new.self i) c.requires.placed in
    record {
      turn = λ J w table.
          busy J w slots trees table j s t n at (ap (with_job s) c.turn.ensures.after) c.turn.ensures.next side op c.in-Ask.is going v k u c.answer.new.replica place there
          c.answer.ensures.lost c.answer.ensures.made;
      stays = stay_stopped slots j s v at (λ h. absurd (false≢true (sym going ∙ c.turn.ensures.stays h)));
      others = λ i h e. no_other_stopped slots j v i h e;
      placed = λ i x b e. subst (λ (m : ℕ). place_on x b < m) (sym (length-set trees k c.answer.new.replica)) (kept i x b e);
      count = length-set slots j v;
      more = would_ask slots j s v at
          (λ old. answer_asks s.job c.turn.new.self v.job n side op c.turn.ensures.after c.turn.ensures.next c.in-Ask.is going
          (λ h. ap (λ (x : Slot). x.job) (c.answer.ensures.lost h).0));
    }

pub returns-in_default : goal.returns-in_default
returns-in_default c =
    let slots = c.args.slots.now.items in
    let trees = c.args.trees.now.items in
    let j = c.args.number in
    let s = c.index_mut-slot.result.now in
    let t : Slot = with_job s c.turn.new.self in
    let at : slice_get slots j ≡ Some s = slice_get_read slots _ j s refl c.requires.number c.index_mut-slot.ensures.value in
    record {
      turn = λ J w table.
          idle J w slots trees table j s t c.turn.result at (ap (with_job s) c.turn.ensures.after) c.turn.ensures.next (not_asked c.turn.result c.in_default.not-Ask);
      stays = stay_stopped slots j s t at c.turn.ensures.stays;
      others = λ i h e. no_other_stopped slots j t i h e;
      placed = still_placed slots trees j s t at (place_same s c.turn.new.self) c.requires.placed;
      count = length-set slots j t;
      more = would_ask slots j s t at (turn_asks s.job c.turn.new.self c.turn.result c.turn.ensures.after c.turn.ensures.memory);
    }
