use Rattle.std.proofs.Common.{sym, ◌∙◌, []}
use Rattle.hub_text.specs.laws.Texts.{is_nil, bytes_eq-chars, nil_ascii}
use Rattle.hub_text.proofs.text.is_empty.Goals as goal

pub returns : goal.returns
returns c = c.is_empty.ensures ∙ (is_nil _ ∙ (bytes_eq-chars _ [] c.utf8.text nil_ascii ∙ sym (is_nil _)))
