use Rattle.std.proofs.Common.{◌∙◌, ◌++◌, ◌∷◌, [], List, map, slice_get, sym, ap, subst}
use Rattle.std.proofs.lemmas.Iterator.Adapters.{YieldsList-from_vec}
use Rattle.std.proofs.lemmas.Iterator.Consumers.{YieldsList-end}
use Rattle.std.proofs.lemmas.List.{map-append, map-id}
use Rattle.hub_profile.specs.Parts.{Parts}
use Rattle.hub_rounds.specs.Numbered.{StandAsNumbers}
use Rattle.hub_rounds.specs.declared.placing.Placed.{Placed}
use Rattle.hub_rounds.proofs.AsNumbers.{none-so, one-more-so}
use Rattle.hub_rounds.proofs.standing.placed_so.Goals as goal

pub loop-profile-init : goal.loop-profile-init
loop-profile-init c = record {
  all = ap (map (λ (p : Placed). p.profile)) c.in_ok-placed.ensures.items;
  so = subst (λ (ps : List Placed). StandAsNumbers c.args.placings.now ps) (sym c.in_ok-placed.ensures.items) (none-so c.args.placings.now);
}

pub loop-profile-preserved : goal.loop-profile-preserved
loop-profile-preserved c =
    let qs = c.args.placings.now in
    let ps = c.loop-profile.placed.items in
    let i = c.loop-profile.invariant in
    let p : Placed = record { profile = c.in-Some.profile; placing = c.placing_at-placing.result } in
    record {
      all = ap (map (λ (q : Placed). q.profile)) c.in_ok-push.ensures.items ∙ (map-append (λ (q : Placed). q.profile) ps (p ∷ []) ∙ ap (λ (xs : List Parts). xs ++ p.profile ∷ []) i.all);
      so = subst (λ (xs : List Placed). StandAsNumbers qs xs) (sym c.in_ok-push.ensures.items) (one-more-so qs ps p (λ q at. c.placing_at-placing.ensures q (ap (slice_get qs) (c.len-in-loop-profile.ensures ∙ c.loop-profile.placed.ok.0) ∙ at)) i.so);
    }

pub returns-clause-all : goal.returns-clause-all
returns-clause-all c =
    let from = c.into_iter-profile-iterator in
    let all = YieldsList-end (YieldsList-from_vec {s = from.result} c.args.profiles.items from.ensures.into_iter_gives.0 (from.ensures.into_iter_gives.1 ∙ c.args.profiles.ok.0)) c.loop-profile.yielded c.loop-profile.profile-iterator c.loop-profile.yielded_by c.next.result c.next.new.self c.in-None.is c.next.ensures.steps in
    c.loop-profile.invariant.all ∙ (sym (map-id c.loop-profile.yielded) ∙ all.0)
