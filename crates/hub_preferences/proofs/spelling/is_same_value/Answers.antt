use Rattle.std.proofs.Common.{◌∙◌, bytes_eq}
use Rattle.hub_text.specs.laws.Texts.{same_texts}
use Rattle.hub_preferences.proofs.spelling.is_same_value.Goals as goal

pub returns : goal.returns
returns c =
    c.eq.ensures ∙ same_texts _ _ c.without_last_slash.utf8 c.without_last_slash-2.utf8
    ∙ (λ i. bytes_eq (c.without_last_slash.ensures i) (c.without_last_slash-2.ensures i))
