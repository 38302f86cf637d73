use Rattle.std.proofs.Common.{◌≡◌, ◌∙◌, ◌++◌, List, [], ap, inl, inr, map, subst}
use Rattle.hub_text.specs.laws.Fails.{passed-up}
use Rattle.hub_profile.specs.Parts.{Parts}
use Rattle.hub_profile.specs.declared.rule.Rule.{Rule}
use Rattle.hub_cert.specs.declared.fault.CheckFault.{CheckFault}
use Rattle.hub_unison.specs.ReadingOf.{reading_of}
use Rattle.hub_apart.specs.UnisonLines.{AddsLinesNear, AddsLinesOfEach, AreLinesInUnison, AreValid, IsRefusedInUnison, IsRefusedPair, beside, cautious}
use Rattle.hub_apart.proofs.unison.lines_in_unison.Goals as goal

-- The lines of pairs, and then those of each profile.
joined : (Ps : List Parts) (Rs : List Rule) (mid new es : List CheckFault) → AddsLinesNear (cautious Ps) [] mid
    → AddsLinesOfEach (beside Rs Ps) Rs mid new → es ≡ new → AreLinesInUnison Ps Rs es
joined Ps Rs mid new es near each same = record {
  pairs = near.0;
  near = near.1;
  of_pairs = near.2.0;
  two = near.2.1;
  of_each = each.0;
  one = each.1;
  all = same ∙ (each.2 ∙ ap (λ (xs : List CheckFault). xs ++ each.0) near.2.2);
}

pub returns-in_err-readings-clause-valid : goal.returns-in_err-readings-clause-valid
returns-in_err-readings-clause-valid c = subst AreValid c.as_slice.ensures c.check_valid.ensures

pub returns-in_err-readings-2-clause-valid : goal.returns-in_err-readings-2-clause-valid
returns-in_err-readings-2-clause-valid c = subst AreValid c.as_slice.ensures c.check_valid.ensures

pub returns-in_err-readings-2-clause-refused : goal.returns-in_err-readings-2-clause-refused
returns-in_err-readings-2-clause-refused c =
    let same : c.in_ok-readings.readings ≡ cautious c.args.profiles =
    c.in_ok-readings.ensures.value ∙ ap (λ (Rs : List Rule). map (reading_of Rs) c.args.profiles) c.new-none.ensures in
    passed-up c.from_residual-in_err-readings-2.result c.in_err-readings-2.field-0.0 (IsRefusedInUnison c.args.profiles c.args.rules)
    c.from_residual-in_err-readings-2.ensures.1
    (inl (subst (λ (Cs : List Parts). IsRefusedPair Cs c.in_err-readings-2.field-0.0) same c.in_err-readings-2.ensures.refused))

pub returns-in_err-readings-3-clause-valid : goal.returns-in_err-readings-3-clause-valid
returns-in_err-readings-3-clause-valid c = subst AreValid c.as_slice.ensures c.check_valid.ensures

pub returns-in_err-readings-3-clause-refused : goal.returns-in_err-readings-3-clause-refused
returns-in_err-readings-3-clause-refused c =
    let same : c.in_ok-readings.readings ≡ cautious c.args.profiles =
    c.in_ok-readings.ensures.value ∙ ap (λ (Rs : List Rule). map (reading_of Rs) c.args.profiles) c.new-none.ensures in
    passed-up c.from_residual-in_err-readings-3.result c.in_err-readings-3.field-0.0 (IsRefusedInUnison c.args.profiles c.args.rules)
    c.from_residual-in_err-readings-3.ensures.1
    (inr (c.in_err-readings-3.ensures.refused c.args.profiles (c.in_ok-readings-2.ensures.profiles ∙ same)))

pub returns-clause-valid : goal.returns-clause-valid
returns-clause-valid c = subst AreValid c.as_slice.ensures c.check_valid.ensures

pub returns-clause-readings : goal.returns-clause-readings
returns-clause-readings c =
    let same : c.in_ok-readings.readings ≡ cautious c.args.profiles =
    c.in_ok-readings.ensures.value ∙ ap (λ (Rs : List Rule). map (reading_of Rs) c.args.profiles) c.new-none.ensures in
    c.from_vec.ensures ∙ c.in_ok-readings-3.ensures.profiles c.args.profiles (c.in_ok-readings-2.ensures.profiles ∙ same)

pub returns-clause-lines : goal.returns-clause-lines
returns-clause-lines c =
    let Ps = c.args.profiles in
    let Rs = c.args.rules in
    let mid = c.search_near.new.lines.items in
    let new = c.search_beside.new.lines.items in
    let same : c.in_ok-readings.readings ≡ cautious Ps =
    c.in_ok-readings.ensures.value ∙ ap (λ (Qs : List Rule). map (reading_of Qs) Ps) c.new-none.ensures in
    let near = subst (λ (es : List CheckFault). AddsLinesNear (cautious Ps) es mid) c.new-lines.ensures.items
    (subst (λ (Cs : List Parts). AddsLinesNear Cs c.new-lines.result.items mid) same c.in_ok-readings-2.ensures.lines) in
    let each = c.in_ok-readings-3.ensures.lines Ps (c.in_ok-readings-2.ensures.profiles ∙ same) in
    joined Ps Rs mid new c.from_vec-2.result near each c.from_vec-2.ensures
