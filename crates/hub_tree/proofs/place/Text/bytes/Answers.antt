use Rattle.std.proofs.Common.{◌<◌, length, subst}
use Rattle.std.specs.Prelude.{chars}
use Rattle.hub_path.specs.Path.{Path}
use Rattle.hub_tree.proofs.Places.{some_name}
use Rattle.hub_tree.proofs.place.Text.bytes.Goals as goal

pub returns-clause-some : goal.returns-clause-some
returns-clause-some c = subst (λ (p : Path). 0 < length p) c.self.view_is (some_name (chars c.self.inside.bytes.items))
