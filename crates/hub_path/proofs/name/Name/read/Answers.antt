use Rattle.std.proofs.Common.{sym}
use Rattle.std.specs.Prelude.{chars}
use Rattle.std.proofs.lemmas.Str.{scalars-chars}
use Rattle.hub_path.specs.laws.NameFacts.{is_name-no_fault}
use Rattle.hub_path.proofs.name.Name.read.Goals as goal

pub with_text-requires : goal.with_text-requires
with_text-requires c = is_name-no_fault (chars c.args.text.now) (scalars-chars _ c.utf8.text) (sym c.in-None.ensures)
