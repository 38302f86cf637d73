use Rattle.std.proofs.Common.{◌++◌, Bool, arith, map}
use Rattle.std.specs.List.{list_all}
use Rattle.hub_glob.specs.Specification.{Specification}
use Rattle.hub_unison.specs.ReadingOf.{is_read_back}
use Rattle.hub_nested.specs.Lifted.{said_spec}
use Rattle.hub_nested.proofs.SaidParts.{all-more, leaves, mapped-more, none-if, not-all, some-if}
use Rattle.hub_nested.proofs.said.said_specs.Goals as goal

pub returns-in_default : goal.returns-in_default
returns-in_default c =
    let x = c.args.names.now in
    let all = c.args.specs.now in
    let s = c.spec-item.result in
    let said : Specification → Bool = λ s. is_read_back (said_spec x s) in
    leaves (list_all said all) (c.args.list ++ map (said_spec x) all)
    (not-all said all c.loop-spec.spec-index s (omega arith) c.spec-item.is
    (none-if (is_read_back (said_spec x s)) (said_spec x s) c.in_ok-copy.field-0 c.in_default.is c.in_ok-copy.ensures))

pub loop-spec-preserved : goal.loop-spec-preserved
loop-spec-preserved c =
    let x = c.args.names.now in
    let all = c.args.specs.now in
    let i = c.loop-spec.spec-index in
    let s = c.spec-item.result in
    let said : Specification → Bool = λ s. is_read_back (said_spec x s) in
    let two = some-if (is_read_back (said_spec x s)) (said_spec x s) c.in-Some.copy c.in_ok-copy.field-0 c.in-Some.is c.in_ok-copy.ensures in
    record {
      list = mapped-more (said_spec x) c.args.list all i s c.in-Some.copy c.loop-spec.list c.push.new.self (omega arith) c.spec-item.is
          c.loop-spec.invariant.list two.1 c.in_ok-push.ensures.ok;
      said = all-more said all i s (omega arith) c.spec-item.is c.loop-spec.invariant.said two.0;
    }
