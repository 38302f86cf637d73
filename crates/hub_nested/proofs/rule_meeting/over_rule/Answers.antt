use Rattle.std.proofs.Common.{◌≡◌, ◌==◌, ◌∙◌, length, ap, sym, false}
use Rattle.hub_profile.specs.Facts.{are_kept}
use Rattle.hub_nested.specs.Lifted.{paths_below}
use Rattle.hub_nested.proofs.KeptValues.{kept-below}
use Rattle.hub_nested.proofs.Meetings.{over-counted, over-unsaid}
use Rattle.hub_nested.proofs.Writing.{root-path}
use Rattle.hub_nested.proofs.rule_meeting.over_rule.Goals as goal

pub only_below-requires : goal.only_below-requires
only_below-requires c =
    let x = c.args.names.now in
    let P = c.args.profile.now in
    let all : c.in_ok-paths.paths ≡ paths_below x P.paths = c.in_ok-paths.ensures ∙ ap (paths_below x) c.paths.ensures.value in
    let some : (length c.in_ok-paths.paths == 0) ≡ false = sym c.is_empty.ensures ∙ c.if-is_empty.false in
    record {
      kept = ap are_kept all
          ∙ kept-below x c.len-depth.ensures.valid P.paths c.paths.ensures.valid.paths (sym (ap (λ vs. length vs == 0) all) ∙ some);
    }

pub at_root-requires : goal.at_root-requires
at_root-requires c = record {
  path = root-path c.args.at c.args.profile.now.roots c.root-root.result.now c.root-root.ensures.valid.roots c.root-root.ensures.value;
}

pub returns-in_default : goal.returns-in_default
returns-in_default c = λ r at_r.
    over-unsaid c.args.profile.now c.args.at c.args.names.now c.args.rule.now r c.in_ok-paths.paths c.paths.result.now
    c.in_ok-kept.field-0 c.paths.ensures.value c.in_ok-paths.ensures (sym c.is_empty.ensures ∙ c.if-is_empty.false) c.in_default.is
    c.in_ok-kept.ensures

pub returns : goal.returns
returns c = λ r at_r.
    over-counted c.args.profile.now c.args.at c.args.names.now c.args.rule.now r c.root-root.result.now c.in_ok-copy.field-0
    c.len-depth.result c.in-Some.kept c.in-Some-2.spec c.in_ok-under.under c.in_ok-paths.paths c.paths.result.now
    c.in_ok-kept.field-0 c.in_ok-spec.field-0 c.root-root.ensures.value at_r c.in_ok-copy.ensures c.paths.ensures.value
    c.in_ok-paths.ensures (sym c.is_empty.ensures ∙ c.if-is_empty.false) c.in-Some.is c.in_ok-kept.ensures c.in-Some-2.is
    c.in_ok-spec.ensures c.len-depth.ensures.len c.in_ok-under.ensures
