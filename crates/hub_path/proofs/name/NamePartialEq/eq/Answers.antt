use Rattle.std.proofs.Common.{◌∙◌}
use Rattle.hub_text.specs.laws.Texts.{same_texts}
use Rattle.hub_path.specs.laws.NameFacts.{name_chars}
use Rattle.hub_path.proofs.name.NamePartialEq.eq.Goals as goal

pub returns : goal.returns
returns c =
    let one = name_chars c.args.self.now c.text.result.now c.text.ensures.text c.text.ensures.valid in
    let two = name_chars c.args.other.now c.text-2.result.now c.text-2.ensures.text c.text-2.ensures.valid in
    rw (← one, ← two) (c.eq.ensures ∙ same_texts _ _ c.text.utf8 c.text-2.utf8)
