use Rattle.std.proofs.Common.{◌≡◌, ◌∙◌, ◌++◌, length, map, ⊎_elim, inl, inr, sym, ap}
use Rattle.std.proofs.lemmas.List.{length-map}
use Rattle.std.proofs.lemmas.Result.{err_from_is_err_and}
use Rattle.hub_automaton.specs.declared.alternatives.TheConstants.{SPOTS}
use Rattle.hub_automaton.specs.Spots.{alternatives_of}
use Rattle.hub_reach.specs.Bars.{placed_bars}
use Rattle.hub_reach.proofs.Choices.{length-before, length-specs, with-specs, with-paths, with-bars, refused-specs, refused-paths, refused-bars}
use Rattle.hub_reach.proofs.ranges.SpecRanges.add.Goals as goal

pub returns-in_err-add_specs-2-clause-err : goal.returns-in_err-add_specs-2-clause-err
returns-in_err-add_specs-2-clause-err c =
    let P = c.args.profile.now in
    let p = err_from_is_err_and c.from_residual-in_err-add_specs-2.result c.from_residual-in_err-add_specs-2.ensures.1 in
    let first : c.add_specs.new.self ≡ map alternatives_of P.ignore =
    c.in_ok-add_specs.ensures.ok ∙ (λ i. c.requires i ++ map alternatives_of (c.ignore.ensures i)) in
    rw (p.1, p.2)
    (⊎_elim (λ none. inl none) (λ many. inr (many.0, refused-specs SPOTS P c.add_specs.new.self c.ignorenot.result.now first c.ignorenot.ensures many.1))
    c.in_err-add_specs-2.ensures.err)

pub returns-in_err-add_paths-clause-err : goal.returns-in_err-add_paths-clause-err
returns-in_err-add_paths-clause-err c =
    let P = c.args.profile.now in
    let p = err_from_is_err_and c.from_residual-in_err-add_paths.result c.from_residual-in_err-add_paths.ensures.1 in
    let specs = with-specs P c.args.builder.now c.add_specs.new.self c.add_specs-2.new.self c.ignore.result.now c.ignorenot.result.now
    c.requires c.in_ok-add_specs.ensures.ok c.in_ok-add_specs-2.ensures.ok c.ignore.ensures c.ignorenot.ensures in
    rw (p.1, p.2)
    (⊎_elim (λ none. inl none)
    (λ many. inr (many.0, refused-paths c.paths_have_a_spot_more.ensures SPOTS P c.add_specs-2.new.self c.paths.result.now specs c.paths.ensures.value many.1))
    c.in_err-add_paths.ensures.err)

pub returns-in_err-partial-clause-err : goal.returns-in_err-partial-clause-err
returns-in_err-partial-clause-err c =
    let P = c.args.profile.now in
    let p = err_from_is_err_and c.from_residual-in_err-partial.result c.from_residual-in_err-partial.ensures.1 in
    let specs = with-specs P c.args.builder.now c.add_specs.new.self c.add_specs-2.new.self c.ignore.result.now c.ignorenot.result.now
    c.requires c.in_ok-add_specs.ensures.ok c.in_ok-add_specs-2.ensures.ok c.ignore.ensures c.ignorenot.ensures in
    let kept = with-paths P c.add_specs-2.new.self c.add_paths.new.builder c.paths.result.now specs c.in_ok-add_paths.ensures.ok c.paths.ensures.value in
    rw (p.1, p.2)
    (⊎_elim (λ none. inl none)
    (λ many. inr (many.0, refused-bars c.paths_have_a_spot_more.ensures SPOTS P c.add_paths.new.builder c.partial.result.now kept c.partial.ensures many.1))
    c.in_err-partial.ensures.err)

pub returns-clause-ok : goal.returns-clause-ok
returns-clause-ok c =
    let P = c.args.profile.now in
    let specs = with-specs P c.args.builder.now c.add_specs.new.self c.add_specs-2.new.self c.ignore.result.now c.ignorenot.result.now
    c.requires c.in_ok-add_specs.ensures.ok c.in_ok-add_specs-2.ensures.ok c.ignore.ensures c.ignorenot.ensures in
    let kept = with-paths P c.add_specs-2.new.self c.add_paths.new.builder c.paths.result.now specs c.in_ok-add_paths.ensures.ok c.paths.ensures.value in
    with-bars P c.add_paths.new.builder c.add_bars.new.builder c.partial.result.now kept c.in_ok-partial.ensures.ok c.partial.ensures

pub returns-clause-ranges : goal.returns-clause-ranges
returns-clause-ranges c =
    let P = c.args.profile.now in
    let first : c.add_specs.new.self ≡ map alternatives_of P.ignore =
    c.in_ok-add_specs.ensures.ok ∙ (λ i. c.requires i ++ map alternatives_of (c.ignore.ensures i)) in
    let specs = with-specs P c.args.builder.now c.add_specs.new.self c.add_specs-2.new.self c.ignore.result.now c.ignorenot.result.now
    c.requires c.in_ok-add_specs.ensures.ok c.in_ok-add_specs-2.ensures.ok c.ignore.ensures c.ignorenot.ensures in
    let kept = with-paths P c.add_specs-2.new.self c.add_paths.new.builder c.paths.result.now specs c.in_ok-add_paths.ensures.ok c.paths.ensures.value in
    record {
      ignore_end = c.len-ignore_end.ensures ∙ (ap length first ∙ length-map P.ignore alternatives_of);
      ignorenot_end = c.len-ignorenot_end.ensures ∙ (ap length specs ∙ length-specs P);
      kept_end = c.len-kept_end.ensures ∙ (ap length kept ∙ length-before P);
      bars = c.in_ok-partial.ensures.placed ∙ (λ i. placed_bars (sym c.len-kept_end.ensures i) (c.partial.ensures i));
    }
