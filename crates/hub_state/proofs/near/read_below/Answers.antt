use Rattle.std.proofs.Common.{arith, chars}
use Rattle.hub_state.proofs.Folders.{below_fine}
use Rattle.hub_state.proofs.near.read_below.Goals as goal

pub child_with-requires : goal.child_with-requires
child_with-requires c = below_fine c.args.folder.now (chars c.in-Some.name.now) c.in-Ok.name c.requires (omega arith) c.in-Ok.ensures.ok
