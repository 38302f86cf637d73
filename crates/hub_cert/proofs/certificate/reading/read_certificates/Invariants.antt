use Rattle.hub_cert.proofs.LineByLine.{IsAt}
use Rattle.hub_cert.proofs.certificate.reading.read_certificates.Given as goal

abbrev pub invariant-loop-line : goal.invariant-loop-line
invariant-loop-line l = IsAt l.bytes l.draft l.number l.line-iterator
