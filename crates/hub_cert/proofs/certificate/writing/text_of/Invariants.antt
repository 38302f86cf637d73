use Rattle.std.proofs.Common.{◌≡◌, ◌++◌, true, take, string_bytes}
use Rattle.std.specs.List.{flat_map, list_all}
use Rattle.hub_cert.specs.Reading.{certificates_header}
use Rattle.hub_cert.specs.Writing.{certificate_text, have_characters, line}
use Rattle.hub_cert.proofs.certificate.writing.text_of.Given as goal

abbrev pub invariant-loop-certificate : goal.invariant-loop-certificate
invariant-loop-certificate l = record {
  text : string_bytes l.out ≡ line certificates_header ++ flat_map certificate_text (take l.certificate-index l.certificates);
  characters : list_all have_characters (take l.certificate-index l.certificates) ≡ true;
}
