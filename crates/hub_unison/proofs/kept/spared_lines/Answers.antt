use Rattle.std.proofs.Common.{arith, map}
use Rattle.std.specs.List.{list_all}
use Rattle.hub_unison.specs.Matching.{widened}
use Rattle.hub_unison.specs.ReadingOf.{spare_stays}
use Rattle.hub_unison.proofs.KeptLines.{all-more, leaves, mapped-more, none-if, not-all, some-if}
use Rattle.hub_unison.proofs.kept.spared_lines.Goals as goal

pub returns-in_default : goal.returns-in_default
returns-in_default c =
    let ss = c.args.specs.now in
    let s = c.spec-item.result in
    leaves (list_all spare_stays ss) (map widened ss)
    (not-all spare_stays ss c.loop-spec.spec-index s (omega arith) c.spec-item.is
    (none-if (spare_stays s) (widened s) c.in_ok-copy.field-0 c.in_default.is c.in_ok-copy.ensures))

pub loop-spec-preserved : goal.loop-spec-preserved
loop-spec-preserved c =
    let ss = c.args.specs.now in
    let i = c.loop-spec.spec-index in
    let s = c.spec-item.result in
    let two = some-if (spare_stays s) (widened s) c.in-Some.copy c.in_ok-copy.field-0 c.in-Some.is c.in_ok-copy.ensures in
    record {
      copies = mapped-more widened ss i s c.in-Some.copy c.loop-spec.copies c.push.new.self (omega arith) c.spec-item.is c.loop-spec.invariant.copies two.1 c.in_ok-push.ensures.ok;
      stay = all-more spare_stays ss i s (omega arith) c.spec-item.is c.loop-spec.invariant.stay two.0;
    }
