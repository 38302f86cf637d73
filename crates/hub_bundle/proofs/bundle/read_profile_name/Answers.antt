use Rattle.std.proofs.Common.{refl, sym, ap, ◌∙◌, inr}
use Rattle.std.specs.Str.{chars}
use Rattle.std.proofs.lemmas.Bool.{false_from_ne_true}
use Rattle.std.proofs.lemmas.Str.{is_utf8-from_IsUtf8, IsUtf8-from_is_utf8}
use Rattle.hub_path.specs.Reading.{name_reading}
use Rattle.hub_bundle.specs.Bundle.{profile_or_fault}
use Rattle.hub_bundle.proofs.bundle.read_profile_name.Goals as goal

pub returns-in_default-clause-err : goal.returns-in_default-clause-err
returns-in_default-clause-err c =
    let no_text = false_from_ne_true _ (λ h. c.in_default.ensures.cases.0 (IsUtf8-from_is_utf8 c.args.bytes.now h)) in
    inr (refl, rw no_text refl)

pub returns-in-Ok-read-clause-ok : goal.returns-in-Ok-read-clause-ok
returns-in-Ok-read-clause-ok c =
    let text = c.in-Ok.ensures.cases in
    rw (is_utf8-from_IsUtf8 c.args.bytes.now text.1) (ap profile_or_fault (ap (λ t. name_reading (chars t)) (sym text.0) ∙ c.in-Ok-read.ensures.ok))
