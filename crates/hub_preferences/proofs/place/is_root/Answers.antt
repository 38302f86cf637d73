use Rattle.std.proofs.Common.{◌∙◌, ◌||◌, false, codes, refl}
use Rattle.hub_text.specs.laws.AsciiWords.{word_is}
use Rattle.hub_preferences.proofs.place.is_root.Goals as goal

pub returns : goal.returns
returns c =
    let a = word_is (codes "root") c.args.name.now c.utf8.name refl in
    c.contains.ensures.value ∙ (λ i. (a i || false))
