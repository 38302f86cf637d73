use Rattle.std.proofs.Common.{◌≡◌, ◌∙◌, ◌==◌, false, List, ap, length, map, subst, sym}
use Rattle.std.specs.Prelude.{IfErr, IfOk, OnOk}
use Rattle.hub_profile.specs.Parts.{Parts}
use Rattle.hub_profile.specs.declared.rule.Rule.{Rule}
use Rattle.hub_apart.specs.UnisonLines.{AddsLinesOfEach, AreValid, IsRefusedOne, beside, cautious, wide}
use Rattle.hub_apart.proofs.LinesOfEach.{none-added}
use Rattle.hub_apart.proofs.Readings.{all-wide}
use Rattle.hub_apart.proofs.beside.search_beside.Goals as goal

pub returns-then-is_empty-clause-lines : goal.returns-then-is_empty-clause-lines
returns-then-is_empty-clause-lines c = λ Ps e.
    none-added Ps c.args.rules (ap (λ (Rs : List Rule). length Rs == 0) (sym c.as_slice.ensures.value) ∙ (sym c.is_empty.ensures ∙ c.if-is_empty.true)) c.args.lines.now.items

pub returns-clause-profiles : goal.returns-clause-profiles
returns-clause-profiles c = λ Ps e.
    let some : (length c.args.rules == 0) ≡ false =
    ap (λ (Rs : List Rule). length Rs == 0) (sym c.as_slice.ensures.value) ∙ (sym c.is_empty.ensures ∙ c.if-is_empty.false) in
    let valid : AreValid (cautious Ps) = subst AreValid (c.as_slice-2.ensures.value ∙ e) c.check_valid.ensures in
    let same : c.in_ok-readings.readings.items ≡ beside c.args.rules Ps =
    c.in_ok-readings.ensures ∙ (ap (λ (Cs : List Parts). map wide Cs) e ∙ all-wide c.args.rules Ps some valid) in
    subst (λ (Ds : List Parts). IfOk c.search_each_alone.result (λ r. r.0.items ≡ Ds)) same c.search_each_alone.ensures.profiles

pub returns-clause-lines : goal.returns-clause-lines
returns-clause-lines c = λ Ps e.
    let some : (length c.args.rules == 0) ≡ false =
    ap (λ (Rs : List Rule). length Rs == 0) (sym c.as_slice.ensures.value) ∙ (sym c.is_empty.ensures ∙ c.if-is_empty.false) in
    let valid : AreValid (cautious Ps) = subst AreValid (c.as_slice-2.ensures.value ∙ e) c.check_valid.ensures in
    let same : c.in_ok-readings.readings.items ≡ beside c.args.rules Ps =
    c.in_ok-readings.ensures ∙ (ap (λ (Cs : List Parts). map wide Cs) e ∙ all-wide c.args.rules Ps some valid) in
    subst (λ (Ds : List Parts). OnOk c.search_each_alone.result (AddsLinesOfEach Ds c.args.rules c.args.lines.now.items c.search_each_alone.new.lines.items)) same c.search_each_alone.ensures.lines

pub returns-clause-refused : goal.returns-clause-refused
returns-clause-refused c = λ Ps e.
    let some : (length c.args.rules == 0) ≡ false =
    ap (λ (Rs : List Rule). length Rs == 0) (sym c.as_slice.ensures.value) ∙ (sym c.is_empty.ensures ∙ c.if-is_empty.false) in
    let valid : AreValid (cautious Ps) = subst AreValid (c.as_slice-2.ensures.value ∙ e) c.check_valid.ensures in
    let same : c.in_ok-readings.readings.items ≡ beside c.args.rules Ps =
    c.in_ok-readings.ensures ∙ (ap (λ (Cs : List Parts). map wide Cs) e ∙ all-wide c.args.rules Ps some valid) in
    subst (λ (Ds : List Parts). IfErr c.search_each_alone.result (IsRefusedOne Ds c.args.rules)) same c.search_each_alone.ensures.refused
