use Rattle.std.proofs.Common.{◌≡◌, List, map, subst, sym}
use Rattle.std.proofs.lemmas.Result.{IfOk-weaker}
use Rattle.hub_profile.specs.Parts.{Parts}
use Rattle.hub_unison.specs.laws.Reading.{readings-read}
use Rattle.hub_unison.specs.ReadingOf.{reading_of}
use Rattle.hub_unison.specs.Rules.{AreReadForUnison}
use Rattle.hub_unison.specs.Written.{AreWrittenAs, Written}
use Rattle.hub_unison.proofs.set.read_set.Goals as goal

pub returns-clause-wide : goal.returns-clause-wide
returns-clause-wide c =
    let Ps = c.args.profiles in
    let Rs = c.args.rules.now in
    IfOk-weaker c.read_all.result (λ (Cs : List Parts). Cs ≡ map (reading_of Rs) Ps)
    (λ Cs. (Ws : List Written) → AreWrittenAs Ws Ps → AreReadForUnison Ws Rs Cs)
    (λ Cs e Ws written. subst (λ Ds. AreReadForUnison Ws Rs Ds) (sym e) (readings-read Ws Ps Rs written)) c.read_all.ensures
