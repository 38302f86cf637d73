use Rattle.std.proofs.Common.{◌∙◌, ◌||◌, false, codes, refl}
use Rattle.hub_text.specs.laws.AsciiWords.{word_is}
use Rattle.hub_respelled.proofs.case.sets_case.Goals as goal

pub returns : goal.returns
returns c =
    let a = word_is (codes "ignorecase") c.args.name.now c.utf8.name refl in
    let b = word_is (codes "fat") c.args.name.now c.utf8.name refl in
    c.contains.ensures.value ∙ (λ i. (a i || (b i || false)))
