use Rattle.std.proofs.Common.{◌∙◌, [], ◌∷◌, refl}
use Rattle.hub_text.specs.laws.AsciiWords.{is_word}
use Rattle.hub_folded.proofs.values.is_star.Goals as goal

pub returns : goal.returns
returns c = c.eq.ensures ∙ is_word c.args.text.now (42 ∷ []) c.utf8.text refl
