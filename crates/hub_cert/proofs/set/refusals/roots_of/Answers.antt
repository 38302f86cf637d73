use Rattle.std.proofs.Common.{◌∙◌, ◌++◌, ◌∷◌, [], List, map, refl, ap, sym, append-nil, arith}
use Rattle.std.specs.List.{flat_map}
use Rattle.std.proofs.lemmas.List.{take_all}
use Rattle.std.proofs.lemmas.Option.{slice_get_read, slice_get_within}
use Rattle.hub_text.specs.laws.List.{also-here}
use Rattle.hub_path.specs.Path.{Path}
use Rattle.hub_profile.specs.Parts.{Parts, IsProfile}
use Rattle.hub_profile.specs.declared.rule.Rule.{Rule}
use Rattle.hub_cert.proofs.SetFacts.{flat-taken, roots-are, rules-taken}
use Rattle.hub_cert.proofs.set.refusals.roots_of.Goals as goal

pub loop-profile-preserved : goal.loop-profile-preserved
loop-profile-preserved c =
    let at = slice_get_read c.args.profiles.now _ c.loop-profile.profile-index c.profile-item.result refl c.loop-profile-test.true c.profile-item.is in (
      flat-taken (λ (P : Parts). P.roots) c.args.profiles.now c.loop-profile.profile-index c.profile-item.result c.loop-profile.roots.items c.push_roots.new.roots.items c.loop-profile-test.true c.profile-item.is
          c.loop-profile.invariant.0 c.in_ok-push_roots.ensures.roots,
      also-here IsProfile c.args.profiles.now c.loop-profile.profile-index c.profile-item.result at c.push_roots.ensures.valid c.loop-profile.invariant.1,
    )

pub loop-rule-init : goal.loop-rule-init
loop-rule-init c =
    c.loop-profile.invariant.0
    ∙ (ap (flat_map (λ (P : Parts). P.roots)) (take_all c.loop-profile.profile-index c.args.profiles.now (omega (arith, c.loop-profile-test.false)))
    ∙ sym (append-nil (flat_map (λ (P : Parts). P.roots) c.args.profiles.now)))

pub loop-rule-preserved : goal.loop-rule-preserved
loop-rule-preserved c =
    rules-taken c.args.rules.now c.loop-rule.rule-index c.rule-item.result (flat_map (λ (P : Parts). P.roots) c.args.profiles.now) c.loop-rule.roots.items c.push.new.self.items c.loop-rule-test.true c.rule-item.is
    c.loop-rule.invariant (c.in_ok-push.ensures.items ∙ ap (λ (r : Path). c.loop-rule.roots.items ++ r ∷ []) c.in_ok-copy.ensures)

pub returns-clause-roots : goal.returns-clause-roots
returns-clause-roots c = λ S ps rs.
    roots-are S c.args.profiles.now c.args.rules.now c.loop-rule.roots.items ps rs
    (c.loop-rule.invariant ∙ ap (λ (Rs : List Rule). flat_map (λ (P : Parts). P.roots) c.args.profiles.now ++ map (λ (Q : Rule). Q.root) Rs) (take_all c.loop-rule.rule-index c.args.rules.now (omega arith)))

pub returns-clause-valid : goal.returns-clause-valid
returns-clause-valid c = λ i P at. let l = slice_get_within c.args.profiles.now i P at in c.loop-profile.invariant.1 i P (omega (arith, l, c.loop-profile-test.false)) at
