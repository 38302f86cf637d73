use Rattle.std.proofs.Common.{◌≡◌, ◌&&◌, ◌++◌, map, ap, ◌∙◌, Option, Some, None}
use Rattle.std.specs.Prelude.{if◌then◌else◌}
use Rattle.std.proofs.lemmas.Result.{IfOk-weaker}
use Rattle.hub_profile.specs.Facts.{are_kept}
use Rattle.hub_profile.specs.Parts.{Parts}
use Rattle.hub_nested.specs.Lifted.{are_said, can_be_said}
use Rattle.hub_nested.specs.Lifted as lifted
use Rattle.hub_nested.specs.Said.{fixed_top, is_top_said, spared_top, with_said}
use Rattle.hub_nested.proofs.KeptValues.{kept-above}
use Rattle.hub_nested.proofs.SaidParts.{leaves, none-if, said-whole}
use Rattle.hub_nested.proofs.said.said_from.Goals as goal

pub said_with-requires : goal.said_with-requires
said_with-requires c = record {
  kept = ap are_kept (c.in_ok-paths.ensures ∙ ap (map (λ v. c.args.names.now ++ v)) c.paths.ensures.value)
      ∙ kept-above c.args.names.now c.len-place.ensures.valid c.args.profile.now.paths c.paths.ensures.valid.paths;
}

pub returns-in_default : goal.returns-in_default
returns-in_default c =
    let x = c.args.names.now in
    let P = c.args.profile.now in
    leaves (can_be_said x P) (lifted.said_from x P)
    (ap (λ b. b && are_said x P)
    (none-if (is_top_said x) (spared_top x) c.in_ok-spared.field-0 c.in_default.is c.in_ok-spared.ensures))

pub returns-in_default-2 : goal.returns-in_default-2
returns-in_default-2 c =
    let x = c.args.names.now in
    let P = c.args.profile.now in
    leaves (can_be_said x P) (lifted.said_from x P)
    (ap (λ b. b && are_said x P)
    (none-if (is_top_said x) (fixed_top x) c.in_ok-bars.field-0 c.in_default-2.is c.in_ok-bars.ensures))

pub returns : goal.returns
returns c =
    let x = c.args.names.now in
    let P = c.args.profile.now in
    let paths = c.in_ok-paths.paths in
    let spared = c.in-Some.spared in
    let bars = c.in-Some-2.bars in
    IfOk-weaker c.said_with.result
    (λ (o : Option Parts). o ≡ (if are_said x P then Some (with_said x P paths spared bars) else None))
    (λ o. o ≡ (if can_be_said x P then Some (lifted.said_from x P) else None))
    (λ o e. said-whole x P paths c.paths.result.now spared bars c.in_ok-spared.field-0 c.in_ok-bars.field-0 o
    c.paths.ensures.value c.in_ok-paths.ensures c.in-Some.is c.in_ok-spared.ensures c.in-Some-2.is c.in_ok-bars.ensures e)
    c.said_with.ensures
