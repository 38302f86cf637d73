use Rattle.std.proofs.Common.{string_bytes}
use Rattle.hub_cert.proofs.ReadBack.{written-read}
use Rattle.hub_cert.proofs.certificate.writing.write_certificates.Goals as goal

pub returns-clause-read_back : goal.returns-clause-read_back
returns-clause-read_back c = λ goals. written-read c.args.certificates.now (string_bytes c.in_ok-text_of.field-0) goals c.in_ok-text_of.ensures.characters c.in_ok-text_of.ensures.text
