use Rattle.std.proofs.Common.{sym, ap, ◌∙◌, encode_utf8_all}
use Rattle.std.proofs.lemmas.Str.{encodes-chars, IsUtf8-string_bytes}
use Rattle.hub_profile.proofs.fault.Preference.text.Goals as goal

pub returns : goal.returns
returns c = c.as_str.ensures.value ∙ (sym (encodes-chars _ (IsUtf8-string_bytes c.self.inside.text)) ∙ ap encode_utf8_all c.self.view_is)
