use Rattle.std.specs.BTreeMap.{keys}
use Rattle.hub_path.specs.Path.{Name}
use Rattle.hub_tree.proofs.Pushed.{one_pushed}
use Rattle.hub_tree.proofs.node.names_of.Goals as goal

pub loop-name-preserved : goal.loop-name-preserved
loop-name-preserved c =
    one_pushed {X = Name} c.loop-name.names.items c.push.new.self.items c.loop-name.name-iterator c.next.new.self (keys c.args.children.now) c.in-Some.name.now _
    c.in_ok-push.ensures.items c.in_ok-copy.ensures c.in-Some.ensures.steps c.loop-name.invariant
