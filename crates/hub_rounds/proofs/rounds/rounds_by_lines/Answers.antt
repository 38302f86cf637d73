use Rattle.std.proofs.Common.{◌∙◌, ℕ, List, refl, subst}
use Rattle.hub_text.specs.laws.Fails.{passed-up}
use Rattle.hub_cert.specs.Set.{Members}
use Rattle.hub_rounds.specs.Numbered.{AreStanding, StandAsNumbers}
use Rattle.hub_rounds.specs.Unverified.{IsRoundsFault}
use Rattle.hub_rounds.specs.declared.placing.Placing.{Placing}
use Rattle.hub_rounds.proofs.AsNumbers.{as-many, profiles-split, profiles-told}
use Rattle.hub_rounds.proofs.Cutting.{are-rounds}
use Rattle.hub_rounds.proofs.Unverified.{rounds-fault}
use Rattle.hub_rounds.proofs.rounds.rounds_by_lines.Goals as goal

pub returns-clause-rounds : goal.returns-clause-rounds
returns-clause-rounds c =
    let ps = c.in_ok-placed.placed.items in
    let s = c.in_ok-placings.field-0 in
    let e = c.in_ok-rounds.ensures in
    let es = c.args.lines.now in
    let S : Members = record { profiles = c.args.profiles; rules = c.args.rules } in
    are-rounds S es _ ps s
    (c.in_ok-placed.ensures.all ∙ c.into_vec.ensures)
    (subst (λ (n : ℕ). AreStanding n es s) c.len.ensures c.in_ok-placings.ensures)
    (subst (λ (qs : List Placing). StandAsNumbers qs ps) c.as_slice.ensures c.in_ok-placed.ensures.so)
    e.rounds
    e.left
    e.safe
    refl
    e.rules

-- A round isn't verified.
pub returns-in_err-rounds-clause-refused : goal.returns-in_err-rounds-clause-refused
returns-in_err-rounds-clause-refused c =
    let ps = c.in_ok-placed.placed.items in
    let s = c.in_ok-placings.field-0 in
    let es = c.args.lines.now in
    let S : Members = record { profiles = c.args.profiles; rules = c.args.rules } in
    let all = c.in_ok-placed.ensures.all ∙ c.into_vec.ensures in
    let are = subst (λ (n : ℕ). AreStanding n es s) c.len.ensures c.in_ok-placings.ensures in
    let so = subst (λ (qs : List Placing). StandAsNumbers qs ps) c.as_slice.ensures c.in_ok-placed.ensures.so in
    let equal = as-many ps S.profiles s.placings all are.all in
    passed-up c.from_residual-in_err-rounds.result c.in_err-rounds.field-0.0 (IsRoundsFault S es) c.from_residual-in_err-rounds.ensures.1
    (rounds-fault S es ps s.rounds c.args.rules c.in_err-rounds.field-0.0
    all
    (profiles-told es s.placings ps s.rounds equal so are.told)
    (profiles-split es s.placings ps equal so are.split)
    refl
    c.in_err-rounds.ensures.refused)
