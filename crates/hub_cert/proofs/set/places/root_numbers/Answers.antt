use Rattle.std.proofs.Common.{◌≡◌}
use Rattle.hub_cert.specs.declared.set.places.RootNumbers.{RootNumbers}
use Rattle.hub_cert.proofs.PlaceNumbers.{are-numbers}
use Rattle.hub_cert.proofs.set.places.root_numbers.Goals as goal

pub returns-clause-numbers : goal.returns-clause-numbers
returns-clause-numbers c =
    let n : RootNumbers = record { left = c.in_ok-first.first; right = c.in_ok-second.second; writes_left = c.writes.result; writes_right = c.writes-2.result } in
    are-numbers c.number_of.new.roots.keys c.number_of-2.new.roots.keys c.args.profile.now n c.root-left.result.now c.root-right.result.now c.root-left.ensures.valid c.root-left.ensures.value c.root-right.ensures.value
    c.in_ok-first.ensures.number c.in_ok-second.ensures.kept c.in_ok-second.ensures.number c.writes.ensures c.writes-2.ensures
