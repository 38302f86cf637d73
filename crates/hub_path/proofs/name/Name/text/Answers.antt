use Rattle.std.proofs.Common.{sym, ap, ◌∙◌, encode_utf8_all, chars}
use Rattle.std.proofs.lemmas.Str.{encodes-chars}
use Rattle.hub_path.proofs.name.Name.text.Goals as goal

pub returns-clause-text : goal.returns-clause-text
returns-clause-text c =
    sym (encodes-chars _ c.as_str.utf8) ∙ (ap (λ t. encode_utf8_all (chars t)) c.as_str.ensures.value ∙ ap encode_utf8_all c.self.view_is)
