use Rattle.std.proofs.Common.{refl}
use Rattle.std.specs.Str.{chars}
use Rattle.hub_profile.specs.LineByLine.{look_up}
use Rattle.hub_preferences.specs.Table.{staying, other_meaning}
use Rattle.hub_preferences.proofs.Words.{in_first, in_second}
use Rattle.hub_preferences.proofs.table.meaning_of.Goals as goal

pub returns-in-Some : goal.returns-in-Some
returns-in-Some c =
    in_first c.named.result (look_up (chars c.args.name.now) staying) (other_meaning (chars c.args.name.now)) (c.named.ensures staying refl refl) _ c.in-Some.is

pub returns-in-None : goal.returns-in-None
returns-in-None c =
    in_second c.named.result (look_up (chars c.args.name.now) staying) (other_meaning (chars c.args.name.now)) _ (c.named.ensures staying refl refl) c.in-None.is c.other_meaning.ensures
