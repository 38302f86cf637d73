use Rattle.std.proofs.Common.{◌++◌, Bool, arith, map}
use Rattle.std.specs.List.{list_all}
use Rattle.hub_profile.specs.declared.partial.Partial.{Partial}
use Rattle.hub_unison.specs.ReadingOf.{is_read_back}
use Rattle.hub_nested.specs.Lifted.{said_spec}
use Rattle.hub_nested.specs.Said.{said_bar}
use Rattle.hub_nested.proofs.SaidParts.{all-more, leaves, mapped-more, none-if, not-all, some-if}
use Rattle.hub_nested.proofs.said.said_bars.Goals as goal

pub returns-in_default : goal.returns-in_default
returns-in_default c =
    let x = c.args.names.now in
    let all = c.args.bars.now in
    let b = c.bar-item.result in
    let said : Partial → Bool = λ b. is_read_back (said_spec x b.spec) in
    leaves (list_all said all) (c.args.list ++ map (said_bar x) all)
    (not-all said all c.loop-bar.bar-index b (omega arith) c.bar-item.is
    (none-if (is_read_back (said_spec x b.spec)) (said_bar x b) c.in_ok-copy.field-0 c.in_default.is c.in_ok-copy.ensures))

pub loop-bar-preserved : goal.loop-bar-preserved
loop-bar-preserved c =
    let x = c.args.names.now in
    let all = c.args.bars.now in
    let i = c.loop-bar.bar-index in
    let b = c.bar-item.result in
    let said : Partial → Bool = λ b. is_read_back (said_spec x b.spec) in
    let two = some-if (is_read_back (said_spec x b.spec)) (said_bar x b) c.in-Some.copy c.in_ok-copy.field-0 c.in-Some.is c.in_ok-copy.ensures in
    record {
      list = mapped-more (said_bar x) c.args.list all i b c.in-Some.copy c.loop-bar.list c.push.new.self (omega arith) c.bar-item.is
          c.loop-bar.invariant.list two.1 c.in_ok-push.ensures.ok;
      said = all-more said all i b (omega arith) c.bar-item.is c.loop-bar.invariant.said two.0;
    }
