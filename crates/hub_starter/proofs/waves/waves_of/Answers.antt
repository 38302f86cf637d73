use Rattle.std.proofs.Common.{◌≡◌, ◌∙◌, List, ℕ, ap, length, subst, sym, arith}
use Rattle.hub_cert.specs.declared.fault.CheckFault.{CheckFault}
use Rattle.hub_profile.specs.Parts.{Parts}
use Rattle.hub_rounds.specs.Lines.{DecideEachGoal, HasOwnLine}
use Rattle.hub_runner.specs.declared.pairs.JobPair.{JobPair}
use Rattle.hub_starter.specs.Waves.{AreBelow, AreLow, AreWaves, HaveEachClash, RiseBy, pairs_in, waves_value}
use Rattle.hub_starter.proofs.Named.{each_clash}
use Rattle.hub_starter.proofs.Rising.{apart_by_pairs}
use Rattle.hub_starter.proofs.waves.waves_of.Goals as goal

pub count_of-count-requires : goal.count_of-count-requires
count_of-count-requires c =
    let low = subst (λ (ns : List ℕ). AreLow ns) (sym c.as_slice-2.ensures.value) c.in_ok-numbers.ensures.low in
    λ j l. let small = low j l in omega (arith, small, l)

pub returns-in-Some-clause-refused : goal.returns-in-Some-clause-refused
returns-in-Some-clause-refused c = (
  c.in_ok-clashes.clashes,
  c.in_ok-clashes.ensures.lines,
  subst (λ (ls : List CheckFault). HasOwnLine ls c.in-Some.profile c.in-Some.reason) c.lines-lines.ensures
      c.in-Some.ensures,
)

pub invariant_of-result : goal.invariant_of-result
invariant_of-result c =
    let S = c.args.set.now in
    let es = c.lines-lines.result.now in
    let ns = c.in_ok-numbers.numbers.items in
    let n = c.count_of-count.result in
    let same : es ≡ c.in_ok-clashes.clashes = c.lines-lines.ensures in
    let decided : DecideEachGoal S es = subst (λ (ls : List CheckFault). DecideEachGoal S ls) (sym same) c.in_ok-clashes.ensures.rest in
    let law = c.jobs_without_a_line_do_not_clash.ensures in
    let valid = c.profiles.ensures.valid in
    let apart = c.profiles.ensures.apart in
    let each : HaveEachClash S.profiles (pairs_in es) =
    each_clash S.profiles es (λ i j off none. law.clash S es i j valid apart decided off none) in
    let pairs : c.as_slice.result.now ≡ pairs_in es = c.as_slice.ensures.value ∙ c.in_ok-pairs.ensures in
    let rise : RiseBy S.profiles (pairs_in es) ns =
    subst (λ (Ps : List Parts). RiseBy Ps (pairs_in es) ns) c.profiles.ensures.value
    (subst (λ (ps : List JobPair). RiseBy c.profiles.result.now ps ns) pairs c.in_ok-numbers.ensures.rise) in
    subst (λ (xs : List ℕ). AreWaves (waves_value S xs c.from_vec-2.result n)) (sym c.from_vec.ensures)
    (subst (λ (ps : List JobPair). AreWaves (waves_value S ns ps n)) (sym (c.from_vec-2.ensures ∙ c.in_ok-pairs.ensures))
    (record {
      each = c.in_ok-numbers.ensures.count ∙ ap length c.profiles.ensures.value;
      pairs = each;
      apart = apart_by_pairs S.profiles (pairs_in es) ns rise each;
      below = subst (λ (xs : List ℕ). AreBelow n xs) c.as_slice-2.ensures.value c.count_of-count.ensures.below;
      some = c.count_of-count.ensures.some;
      rules = law.breach S es valid apart decided c.in_default.ensures;
    }))
