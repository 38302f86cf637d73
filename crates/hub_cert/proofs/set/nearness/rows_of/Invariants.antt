use Rattle.std.proofs.Common.{◌≡◌, take}
use Rattle.hub_cert.specs.Nearness.{near_rows}
use Rattle.hub_cert.proofs.set.nearness.rows_of.Given as goal

abbrev pub invariant-loop-first : goal.invariant-loop-first
invariant-loop-first l = l.rows.items ≡ near_rows l.lists (take l.first l.lists)
