use Rattle.std.proofs.Common.{◌≡◌, ◌<◌, inr, [], ◌∷◌, ◌++◌, ap, arith}
use Rattle.std.proofs.lemmas.Result.{err_from_is_err_and}
use Rattle.hub_automaton.specs.declared.alternatives.Alternatives.{Alternatives}
use Rattle.hub_automaton.specs.declared.alternatives.TheConstants.{SPOTS}
use Rattle.hub_automaton.specs.Spots.{spot_count, spots_count}
use Rattle.hub_automaton.specs.laws.AddedInTurn.{spots-append}
use Rattle.hub_automaton.proofs.builder.SpecSetBuilder.add.Goals as goal

pub returns-in_err-spots-clause-err : goal.returns-in_err-spots-clause-err
returns-in_err-spots-clause-err c =
    let p = err_from_is_err_and c.from_residual.result c.from_residual.ensures.1 in
    let one : Alternatives = record { kind = c.args.kind; choices = c.args.choices } in
    let old : spots_count c.self.inside.alternatives.items ≡ spots_count c.args.self.now = ap spots_count c.self.view_is in
    let new : spot_count c.as_slice.result.now ≡ spot_count c.args.choices = ap spot_count c.as_slice.ensures in
    let counted = c.self.invariant.0 in
    let over = c.in_err-spots.ensures.err.1 in
    let all : SPOTS < spots_count (c.args.self.now ++ one ∷ []) = omega (arith, old, new, counted, over, spots-append c.args.self.now (one ∷ [])) in
    rw (p.1, p.2) (inr (c.in_err-spots.ensures.err.0, all))

pub invariant_of-self-2 : goal.invariant_of-self-2
invariant_of-self-2 c =
    let one : Alternatives = record { kind = c.args.kind; choices = c.args.choices } in
    let items = c.self.inside.alternatives.items in
    let new : spot_count c.as_slice.result.now ≡ spot_count c.args.choices = ap spot_count c.as_slice.ensures in
    let pushed : spots_count c.push.new.self.items ≡ spots_count (items ++ one ∷ []) = ap spots_count c.in_ok-push.ensures.items in
    let counted = c.self.invariant.0 in
    let sum = c.in_ok-spots.ensures.ok in
    (omega (arith, new, pushed, counted, sum, spots-append items (one ∷ [])), c.in_ok-spots.ensures.few)
