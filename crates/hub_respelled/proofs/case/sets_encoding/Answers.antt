use Rattle.std.proofs.Common.{◌∙◌, ◌||◌, false, codes, refl}
use Rattle.hub_text.specs.laws.AsciiWords.{word_is}
use Rattle.hub_respelled.proofs.case.sets_encoding.Goals as goal

pub returns : goal.returns
returns c =
    let a = word_is (codes "unicode") c.args.name.now c.utf8.name refl in
    c.contains.ensures.value ∙ (λ i. (a i || false))
