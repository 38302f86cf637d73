use Rattle.std.proofs.Common.{◌∙◌, ◌++◌, ◌∷◌, [], ℕ, List, ap, ap₂, inr, length, refl, subst}
use Rattle.std.proofs.lemmas.Iterator.Adapters.{YieldsList-from_vec}
use Rattle.std.proofs.lemmas.Iterator.Consumers.{YieldsList-turn}
use Rattle.std.proofs.lemmas.Option.{slice_get_read}
use Rattle.hub_text.specs.laws.Fails.{passed-up}
use Rattle.hub_profile.specs.Parts.{Parts}
use Rattle.hub_apart.specs.ApartLines.{Adds, AreLinesOfTwo, IsRefusedTwo, IsRefusedWithEach}
use Rattle.hub_apart.proofs.Joining.{adds-with-one}
use Rattle.hub_apart.proofs.searched.search_with_each.Goals as goal

pub returns-in_err-profile-clause-refused : goal.returns-in_err-profile-clause-refused
returns-in_err-profile-clause-refused c =
    let Ps = c.args.before.items in
    let P = c.in-Some.profile in
    let many = length c.loop-profile.yielded in
    let t = YieldsList-turn (YieldsList-from_vec {s = c.into_iter-profile-iterator.result} Ps c.into_iter-profile-iterator.ensures.into_iter_gives.0 (c.into_iter-profile-iterator.ensures.into_iter_gives.1 ∙ c.args.before.ok.0)) c.loop-profile.yielded c.loop-profile.profile-iterator c.loop-profile.yielded_by c.next.result c.next.new.self P c.in-Some.is c.next.ensures.steps in
    let at = slice_get_read Ps _ many P refl t.0 t.1 in
    let e = c.in_err-profile.field-0.0 in
    passed-up c.from_residual-in_err-profile.result e (IsRefusedWithEach Ps c.args.last) c.from_residual-in_err-profile.ensures.1
    (inr (many, P, at, subst (λ (Q : Parts). IsRefusedTwo P Q e) c.loop-profile.invariant.last c.in_err-profile.ensures.refused))

pub loop-profile-preserved : goal.loop-profile-preserved
loop-profile-preserved c =
    let Ps = c.loop-profile.yielded in
    let P = c.in-Some.profile in
    let i = c.loop-profile.invariant in
    let j = length c.args.before.items in
    let mid = c.loop-profile.lines.items in
    let new = c.search_two.new.lines.items in
    let at_number = subst (λ (n : ℕ). Adds (AreLinesOfTwo P c.loop-profile.last n c.len-number.result) mid new) (c.len.ensures ∙ (c.loop-profile.all.ok.0 ∙ ap (λ (Qs : List Parts). length Qs) i.all)) c.in_ok-profile.ensures.lines in
    let of_both = subst (λ (n : ℕ). Adds (AreLinesOfTwo P c.loop-profile.last (length Ps) n) mid new) (c.len-number.ensures ∙ c.args.before.ok.0) at_number in
    let of_last = subst (λ (Q : Parts). Adds (AreLinesOfTwo P Q (length Ps) j) mid new) i.last of_both in
    record {
      all = c.in_ok-push.ensures.items ∙ ap₂ (λ (Qs : List Parts) (Q : Parts). Qs ++ Q ∷ []) i.all c.in_ok-profile.ensures.first;
      last = c.in_ok-profile.ensures.second ∙ i.last;
      lines = adds-with-one Ps P c.args.last j c.args.lines.now.items mid new i.lines of_last;
    }
