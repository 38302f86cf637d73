use Rattle.std.proofs.Common.{refl}
use Rattle.std.specs.Str.{chars}
use Rattle.hub_profile.specs.LineByLine.{look_up}
use Rattle.hub_preferences.specs.Table.{elsewhere, idle_meaning}
use Rattle.hub_preferences.proofs.Words.{in_first, in_second}
use Rattle.hub_preferences.proofs.table.quiet_meaning.Goals as goal

pub returns-in-Some : goal.returns-in-Some
returns-in-Some c =
    in_first c.named.result (look_up (chars c.args.name.now) elsewhere) (idle_meaning (chars c.args.name.now)) (c.named.ensures elsewhere refl refl) _ c.in-Some.is

pub returns-in-None : goal.returns-in-None
returns-in-None c =
    in_second c.named.result (look_up (chars c.args.name.now) elsewhere) (idle_meaning (chars c.args.name.now)) _ (c.named.ensures elsewhere refl refl) c.in-None.is c.idle_meaning.ensures
