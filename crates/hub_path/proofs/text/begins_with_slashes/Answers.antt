use Rattle.std.proofs.Common.{◌∙◌, codes, refl}
use Rattle.std.proofs.lemmas.Str.Pattern.{starts_text}
use Rattle.hub_text.specs.laws.Ascii.{starts-text}
use Rattle.hub_path.proofs.text.begins_with_slashes.Goals as goal

pub returns : goal.returns
returns c = starts_text _ (codes "//") c.args.text.now c.starts_with.ensures.cases ∙ starts-text c.args.text.now (codes "//") c.utf8.text refl
