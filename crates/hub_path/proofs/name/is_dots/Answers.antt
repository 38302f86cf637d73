use Rattle.std.proofs.Common.{[], ◌∷◌, arith}
use Rattle.hub_text.specs.laws.Texts.{bytes_eq-chars, dot_ascii, dots_ascii}
use Rattle.hub_path.proofs.name.is_dots.Goals as goal

pub returns-then-eq : goal.returns-then-eq
returns-then-eq c = grind (arith, bytes_eq-chars c.args.text.now (46 ∷ []) c.utf8.text dot_ascii)

pub returns-else-eq : goal.returns-else-eq
returns-else-eq c = grind (arith, bytes_eq-chars c.args.text.now (46 ∷ []) c.utf8.text dot_ascii, bytes_eq-chars c.args.text.now (46 ∷ 46 ∷ []) c.utf8.text dots_ascii)
