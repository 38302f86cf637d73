use Rattle.std.proofs.Common.{◌≡◌, Ok, Result}
use Rattle.std.specs.Str.{chars, is_utf8}
use Rattle.hub_path.specs.Path.{Path}
use Rattle.hub_path.specs.declared.fault.PathFault.{PathFault}
use Rattle.hub_nested.specs.Placed.{zero_root}
use Rattle.hub_nested.proofs.placed.zero_root.Goals as goal

pub returns-in-Ok : goal.returns-in-Ok
unfolding chars is_utf8
returns-in-Ok c =
    let e : ◌≡◌ {A = Result Path PathFault} (Ok zero_root) (Ok c.in-Ok.root) = c.in-Ok.ensures.ok in cc
