use Rattle.std.specs.Prelude.{[], ◌∷◌}
use Rattle.hub_serial.specs.Starter.JobEvent.{Start, End}
use Rattle.hub_serial.proofs.Example.{archives, is_settled, is_started, one, recorded, replicas}
use Rattle.hub_serial.proofs.laws.there_are_settled_records.Goals as goal

pub returns : goal.returns
returns c = (one, replicas, archives, recorded, Start 0 ∷ End 0 ∷ [], is_started, is_settled)
