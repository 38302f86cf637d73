use Rattle.std.proofs.lemmas.Str.{IsUtf8-string_bytes, scalars-chars}
use Rattle.std.specs.Prelude.{string_bytes}
use Rattle.hub_cert.proofs.certificate.StageText.new.Goals as goal

pub invariant_of-result : goal.invariant_of-result
invariant_of-result c = scalars-chars (string_bytes c.args.text) (IsUtf8-string_bytes c.args.text)
