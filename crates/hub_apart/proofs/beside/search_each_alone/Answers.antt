use Rattle.std.proofs.Common.{◌∙◌, ◌++◌, ◌∷◌, [], ℕ, List, append-nil, ap, ap₂, length, refl, subst, sym}
use Rattle.std.proofs.lemmas.Iterator.Adapters.{YieldsList-from_vec}
use Rattle.std.proofs.lemmas.Iterator.Consumers.{YieldsList-turn}
use Rattle.std.proofs.lemmas.Option.{slice_get_read}
use Rattle.hub_text.specs.laws.Fails.{passed-up}
use Rattle.hub_profile.specs.Parts.{Parts}
use Rattle.hub_profile.specs.declared.rule.Rule.{Rule}
use Rattle.hub_apart.specs.ApartLines.{Adds}
use Rattle.hub_apart.specs.NestedLines.{AreLinesBeside, IsRefusedBeside}
use Rattle.hub_apart.specs.UnisonLines.{IsRefusedOne}
use Rattle.hub_apart.proofs.LinesOfEach.{no-profiles, one-profile-more, refused-one}
use Rattle.hub_apart.proofs.beside.search_each_alone.Goals as goal

pub loop-profile-init : goal.loop-profile-init
loop-profile-init c = record {
  all = c.in_ok-all.ensures.items;
  rules = refl;
  lines = ([], no-profiles c.args.rules, sym (append-nil c.args.lines.now.items));
}

pub returns-in_err-profile-clause-refused : goal.returns-in_err-profile-clause-refused
returns-in_err-profile-clause-refused c =
    let all = c.args.profiles.items in
    let Ps = c.loop-profile.yielded in
    let P = c.in-Some.profile in
    let t = YieldsList-turn (YieldsList-from_vec {s = c.into_iter-profile-iterator.result} all c.into_iter-profile-iterator.ensures.into_iter_gives.0 (c.into_iter-profile-iterator.ensures.into_iter_gives.1 ∙ c.args.profiles.ok.0)) Ps c.loop-profile.profile-iterator c.loop-profile.yielded_by c.next.result c.next.new.self P c.in-Some.is c.next.ensures.steps in
    let at = slice_get_read all _ (length Ps) P refl t.0 t.1 in
    let e = c.in_err-profile.field-0.0 in
    passed-up c.from_residual-in_err-profile.result e (IsRefusedOne all c.args.rules) c.from_residual-in_err-profile.ensures.1
    (refused-one all c.args.rules (length Ps) P e at
    (subst (λ (Rs : List Rule). IsRefusedBeside P Rs e) c.loop-profile.invariant.rules c.in_err-profile.ensures.refused))

pub loop-profile-preserved : goal.loop-profile-preserved
loop-profile-preserved c =
    let Ps = c.loop-profile.yielded in
    let P = c.in-Some.profile in
    let i = c.loop-profile.invariant in
    let mid = c.loop-profile.lines.items in
    let new = c.search_ruled.new.lines.items in
    let at_number = subst (λ (n : ℕ). Adds (AreLinesBeside P c.loop-profile.rules n) mid new) (c.len-in-loop-profile.ensures ∙ (c.loop-profile.all.ok.0 ∙ ap (λ (Qs : List Parts). length Qs) i.all)) c.in_ok-profile.ensures.lines in
    let one = subst (λ (Rs : List Rule). Adds (AreLinesBeside P Rs (length Ps)) mid new) i.rules at_number in
    record {
      all = c.in_ok-push.ensures.items ∙ ap₂ (λ (Qs : List Parts) (Q : Parts). Qs ++ Q ∷ []) i.all c.in_ok-profile.ensures.profile;
      rules = c.in_ok-profile.ensures.rules ∙ i.rules;
      lines = one-profile-more Ps P c.args.rules c.args.lines.now.items mid new i.lines one;
    }
