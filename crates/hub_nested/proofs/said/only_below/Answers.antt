use Rattle.std.proofs.Common.{◌≡◌, ◌&&◌, [], ap, Option, Some, None}
use Rattle.std.specs.Prelude.{if◌then◌else◌}
use Rattle.std.proofs.lemmas.Result.{IfOk-weaker}
use Rattle.hub_profile.specs.Parts.{Parts}
use Rattle.hub_unison.specs.ReadingOf.{is_read_back}
use Rattle.hub_nested.specs.Lifted.{are_said, can_be_below, just}
use Rattle.hub_nested.specs.Lifted as lifted
use Rattle.hub_nested.specs.Said.{both_fixed, with_said}
use Rattle.hub_nested.proofs.SaidParts.{below-whole, leaves, none-if}
use Rattle.hub_nested.proofs.said.only_below.Goals as goal

pub returns-in_default : goal.returns-in_default
returns-in_default c =
    let x = c.args.path.now in
    let P = c.args.profile.now in
    leaves (can_be_below x P) (record (lifted.only_below x P) { paths = c.args.paths })
    (ap (λ b. b && are_said [] P)
    (none-if (is_read_back (just x)) (both_fixed x) c.in_ok-bars.field-0 c.in_default.is c.in_ok-bars.ensures))

pub returns : goal.returns
returns c =
    let x = c.args.path.now in
    let P = c.args.profile.now in
    let own = c.top-own.result in
    IfOk-weaker c.said_with.result
    (λ (o : Option Parts). o ≡ (if are_said own P then Some (with_said own P c.args.paths c.new.result c.in-Some.bars) else None))
    (λ o. o ≡ (if can_be_below x P then Some (record (lifted.only_below x P) { paths = c.args.paths }) else None))
    (λ o e. below-whole x P c.args.paths own c.new.result c.in-Some.bars c.in_ok-bars.field-0 o c.top-own.ensures c.new.ensures
    c.in-Some.is c.in_ok-bars.ensures e)
    c.said_with.ensures
