use Rattle.std.proofs.Common.{◌∙◌, ◌++◌, ◌∷◌, [], ⊎_elim, ℕ, List, Some, ap, ap₂, length, refl, subst, sym}
use Rattle.std.specs.Prelude.{slice_get}
use Rattle.std.proofs.lemmas.Iterator.Adapters.{YieldsList-from_vec}
use Rattle.std.proofs.lemmas.Iterator.Consumers.{YieldsList-end, YieldsList-turn}
use Rattle.std.proofs.lemmas.List.{map-id}
use Rattle.std.proofs.lemmas.Option.{none-some, slice_get_read, slice_get_within}
use Rattle.hub_text.specs.laws.Fails.{passed-up}
use Rattle.hub_text.specs.laws.List.{snoc-cases}
use Rattle.hub_profile.specs.Parts.{Parts}
use Rattle.hub_profile.specs.declared.rule.Rule.{Rule}
use Rattle.hub_cert.specs.Refused.{IsRefused}
use Rattle.hub_cert.specs.declared.fault.CheckFault.{CheckFault}
use Rattle.hub_apart.specs.ApartLines.{Adds, AreLinesApart, AreLinesOfOne, AreLinesWithEach, IsRefusedApart, IsRefusedWithEach, set_of_one}
use Rattle.hub_apart.proofs.Joining.{of-nobody, one-profile-more, refused-one, refused-two}
use Rattle.hub_apart.proofs.searched.search_each.Goals as goal

pub loop-profile-init : goal.loop-profile-init
loop-profile-init c = record {
  before = c.new-before.ensures.items;
  seen = λ i P at. absurd (none-some P at);
  rules = refl;
  lines = subst (λ (es : List CheckFault). AreLinesApart (record { profiles = []; rules = c.args.rules }) es) (sym c.new-lines.ensures.items) (of-nobody c.args.rules);
}

pub loop-profile-preserved : goal.loop-profile-preserved
loop-profile-preserved c =
    let all = c.args.profiles.items in
    let Ps = c.loop-profile.yielded in
    let P = c.in-Some.profile in
    let Rs = c.args.rules in
    let i = c.loop-profile.invariant in
    let old = c.loop-profile.lines.items in
    let mid = c.search_one.new.lines.items in
    let new = c.search_with_each.new.lines.items in
    let t = YieldsList-turn (YieldsList-from_vec {s = c.into_iter-profile-iterator.result} all c.into_iter-profile-iterator.ensures.into_iter_gives.0 (c.into_iter-profile-iterator.ensures.into_iter_gives.1 ∙ c.args.profiles.ok.0)) Ps c.loop-profile.profile-iterator c.loop-profile.yielded_by c.next.result c.next.new.self P c.in-Some.is c.next.ensures.steps in
    let at = slice_get_read all _ (length Ps) P refl t.0 t.1 in
    let one_at = subst (λ (n : ℕ). Adds (AreLinesOfOne P c.loop-profile.rules n) old mid) (c.len.ensures ∙ (c.loop-profile.before.ok.0 ∙ ap (λ (Qs : List Parts). length Qs) i.before)) c.in_ok-profile.ensures.lines in
    let one = subst (λ (Qs : List Rule). Adds (AreLinesOfOne P Qs (length Ps)) old mid) i.rules one_at in
    let each_of = subst (λ (Q : Parts). Adds (AreLinesWithEach c.loop-profile.before.items Q (length c.loop-profile.before.items)) mid new) c.in_ok-profile.ensures.profile c.in_ok-before.ensures.lines in
    let each = subst (λ (Qs : List Parts). Adds (AreLinesWithEach Qs P (length Qs)) mid new) i.before each_of in
    record {
      before = c.in_ok-before.ensures.profiles ∙ ap₂ (λ (Qs : List Parts) (Q : Parts). Qs ++ Q ∷ []) i.before c.in_ok-profile.ensures.profile;
      seen = λ k Q got. ⊎_elim (λ before. i.seen k Q before) (λ here. (ap (slice_get all) here.0 ∙ at) ∙ ap Some here.1) (snoc-cases Ps P Q k got);
      rules = c.in_ok-profile.ensures.rules ∙ i.rules;
      lines = one-profile-more Ps P Rs old mid new i.lines one each;
    }

pub returns-in_err-profile-clause-refused : goal.returns-in_err-profile-clause-refused
returns-in_err-profile-clause-refused c =
    let all = c.args.profiles.items in
    let Ps = c.loop-profile.yielded in
    let P = c.in-Some.profile in
    let i = c.loop-profile.invariant in
    let t = YieldsList-turn (YieldsList-from_vec {s = c.into_iter-profile-iterator.result} all c.into_iter-profile-iterator.ensures.into_iter_gives.0 (c.into_iter-profile-iterator.ensures.into_iter_gives.1 ∙ c.args.profiles.ok.0)) Ps c.loop-profile.profile-iterator c.loop-profile.yielded_by c.next.result c.next.new.self P c.in-Some.is c.next.ensures.steps in
    let at = slice_get_read all _ (length Ps) P refl t.0 t.1 in
    let e = c.in_err-profile.field-0.0 in
    passed-up c.from_residual.result e (IsRefusedApart (record { profiles = all; rules = c.args.rules })) c.from_residual.ensures.1
    (refused-one (record { profiles = all; rules = c.args.rules }) (length Ps) P e at (subst (λ (Rs : List Rule). IsRefused (set_of_one P Rs) e) i.rules c.in_err-profile.ensures.refused))

pub returns-in_err-before-clause-refused : goal.returns-in_err-before-clause-refused
returns-in_err-before-clause-refused c =
    let all = c.args.profiles.items in
    let Ps = c.loop-profile.yielded in
    let P = c.in-Some.profile in
    let i = c.loop-profile.invariant in
    let t = YieldsList-turn (YieldsList-from_vec {s = c.into_iter-profile-iterator.result} all c.into_iter-profile-iterator.ensures.into_iter_gives.0 (c.into_iter-profile-iterator.ensures.into_iter_gives.1 ∙ c.args.profiles.ok.0)) Ps c.loop-profile.profile-iterator c.loop-profile.yielded_by c.next.result c.next.new.self P c.in-Some.is c.next.ensures.steps in
    let at = slice_get_read all _ (length Ps) P refl t.0 t.1 in
    let e = c.in_err-before.field-0.0 in
    let of = subst (λ (Q : Parts). IsRefusedWithEach c.loop-profile.before.items Q e) c.in_ok-profile.ensures.profile c.in_err-before.ensures.refused in
    passed-up c.from_residual-in_err-before.result e (IsRefusedApart (record { profiles = all; rules = c.args.rules })) c.from_residual-in_err-before.ensures.1
    (refused-two (record { profiles = all; rules = c.args.rules }) Ps P (length Ps) e at
    (λ k Q got. (slice_get_within Ps k Q got, i.seen k Q got))
    (subst (λ (Qs : List Parts). IsRefusedWithEach Qs P e) i.before of))

-- After the last profile.
pub returns-clause-lines : goal.returns-clause-lines
returns-clause-lines c =
    let from = c.into_iter-profile-iterator in
    let all = YieldsList-end (YieldsList-from_vec {s = from.result} c.args.profiles.items from.ensures.into_iter_gives.0 (from.ensures.into_iter_gives.1 ∙ c.args.profiles.ok.0)) c.loop-profile.yielded c.loop-profile.profile-iterator c.loop-profile.yielded_by c.next.result c.next.new.self c.in-None.is c.next.ensures.steps in
    subst (λ (Ps : List Parts). AreLinesApart (record { profiles = Ps; rules = c.args.rules }) c.loop-profile.lines.items) (sym (map-id c.loop-profile.yielded) ∙ all.0) c.loop-profile.invariant.lines
