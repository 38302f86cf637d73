use Rattle.std.proofs.Common.{◌∙◌, List, length, refl, sym, ap, subst}
use Rattle.std.proofs.lemmas.List.{length_push}
use Rattle.std.proofs.lemmas.Iterator.Adapters.{YieldsList-from_vec}
use Rattle.std.proofs.lemmas.Iterator.Consumers.{YieldsList-end, YieldsList-turn}
use Rattle.std.proofs.lemmas.List.{map-id}
use Rattle.std.proofs.lemmas.Option.{slice_get_read}
use Rattle.hub_profile.specs.Parts.{Parts}
use Rattle.hub_profile.specs.declared.rule.Rule.{Rule}
use Rattle.hub_serve.specs.ByRounds.{AddsRound}
use Rattle.hub_serve.proofs.ByRounds.{IsSoFar, begun, ended, stopped, went-on}
use Rattle.hub_serve.proofs.by_rounds.run_each.Goals as goal

pub loop-profiles-init : goal.loop-profiles-init
loop-profiles-init g c = (refl, begun c.args.rules c.args.workers c.args.rounds.items c.args.run.now c.requires.begun)

pub returns-then-not-run : goal.returns-then-not-run
returns-then-not-run g c =
    let rounds = c.args.rounds.items in
    let many = length c.loop-profiles.yielded in
    let t = YieldsList-turn (YieldsList-from_vec {s = c.into_iter-profiles-iterator.result} rounds c.into_iter-profiles-iterator.ensures.into_iter_gives.0 (c.into_iter-profiles-iterator.ensures.into_iter_gives.1 ∙ c.args.rounds.ok.0)) c.loop-profiles.yielded c.loop-profiles.profiles-iterator c.loop-profiles.yielded_by c.next.result c.next.new.self c.in-Some.profiles c.in-Some.is c.next.ensures.steps in
    let at = slice_get_read rounds _ many c.in-Some.profiles refl t.0 t.1 in
    let step = subst (λ (Rs : List Rule). AddsRound Rs c.in-Some.profiles c.args.workers c.loop-profiles.run c.run_round.new.run) c.loop-profiles.invariant.0 c.in_ok-rules.ensures.step in
    let run = stopped c.args.rules c.args.workers c.args.run.now.state rounds many c.in-Some.profiles c.loop-profiles.run c.run_round.new.run c.requires.workers c.loop-profiles.invariant.1 at step c.if-not-run.true in
    record { run = run; refused = tt }

pub loop-profiles-preserved : goal.loop-profiles-preserved
loop-profiles-preserved g c =
    let rounds = c.args.rounds.items in
    let many = length c.loop-profiles.yielded in
    let t = YieldsList-turn (YieldsList-from_vec {s = c.into_iter-profiles-iterator.result} rounds c.into_iter-profiles-iterator.ensures.into_iter_gives.0 (c.into_iter-profiles-iterator.ensures.into_iter_gives.1 ∙ c.args.rounds.ok.0)) c.loop-profiles.yielded c.loop-profiles.profiles-iterator c.loop-profiles.yielded_by c.next.result c.next.new.self c.in-Some.profiles c.in-Some.is c.next.ensures.steps in
    let at = slice_get_read rounds _ many c.in-Some.profiles refl t.0 t.1 in
    let step = subst (λ (Rs : List Rule). AddsRound Rs c.in-Some.profiles c.args.workers c.loop-profiles.run c.run_round.new.run) c.loop-profiles.invariant.0 c.in_ok-rules.ensures.step in
    let more = went-on c.args.rules c.args.workers c.args.run.now.state rounds many c.in-Some.profiles c.loop-profiles.run c.run_round.new.run c.requires.workers c.loop-profiles.invariant.1 at step c.if-not-run.false in (
      c.in_ok-rules.ensures.rules ∙ c.loop-profiles.invariant.0,
      subst (λ k. IsSoFar c.args.rules c.args.workers c.args.run.now.state rounds k c.run_round.new.run) (sym (length_push c.loop-profiles.yielded c.in-Some.profiles)) more,
    )

pub returns : goal.returns
returns g c =
    let rounds = c.args.rounds.items in
    let all = YieldsList-end (YieldsList-from_vec {s = c.into_iter-profiles-iterator.result} rounds c.into_iter-profiles-iterator.ensures.into_iter_gives.0 (c.into_iter-profiles-iterator.ensures.into_iter_gives.1 ∙ c.args.rounds.ok.0)) c.loop-profiles.yielded c.loop-profiles.profiles-iterator c.loop-profiles.yielded_by c.next.result c.next.new.self c.in-None.is c.next.ensures.steps in
    let run = ended c.args.rules c.args.workers c.args.run.now.state rounds (length c.loop-profiles.yielded) c.loop-profiles.run c.requires.workers c.loop-profiles.invariant.1
    (ap (λ (xs : List (List Parts)). length xs) (sym (map-id c.loop-profiles.yielded) ∙ all.0)) in
    record { run = run; refused = tt }
