use Rattle.std.specs.BTreeMap.{keys}
use Rattle.hub_path.specs.Path.{Path}
use Rattle.hub_tree.proofs.Pushed.{one_pushed}
use Rattle.hub_tree.proofs.archive.copies_of_paths.Goals as goal

pub loop-path-preserved : goal.loop-path-preserved
loop-path-preserved c =
    one_pushed {X = Path} c.loop-path.paths.items c.push.new.self.items c.loop-path.path-iterator c.next.new.self (keys c.args.marks.now) c.in-Some.path.now _
    c.in_ok-push.ensures.items c.in_ok-copy.ensures c.in-Some.ensures.steps c.loop-path.invariant
