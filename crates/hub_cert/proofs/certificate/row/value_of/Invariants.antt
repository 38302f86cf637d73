use Rattle.std.proofs.Common.{◌≡◌, take}
use Rattle.hub_cert.specs.Reading.{decimal_value}
use Rattle.hub_cert.proofs.certificate.row.value_of.Given as goal

abbrev pub invariant-loop-digit : goal.invariant-loop-digit
invariant-loop-digit l = l.value ≡ decimal_value (take l.digit-index l.digits)
