use Rattle.std.proofs.Common.{sym, ap, ◌∙◌}
use Rattle.std.specs.Prelude.{nat_lt, length}
use Rattle.std.proofs.lemmas.Str.{encodes-chars}
use Rattle.hub_text.specs.laws.Texts.{length-encodes}
use Rattle.hub_path.specs.declared.name.TheConstants.{NAME_BYTES}
use Rattle.hub_path.proofs.name.is_long.Goals as goal

pub returns : goal.returns
returns c =
    ap (nat_lt NAME_BYTES) (sym (ap length (encodes-chars c.args.text.now c.utf8.text)) ∙ length-encodes _)
