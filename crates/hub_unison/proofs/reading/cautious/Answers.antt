use Rattle.std.proofs.Common.{◌≡◌, ◌∙◌, subst, sym}
use Rattle.std.proofs.lemmas.Result.{IfOk-weaker}
use Rattle.hub_profile.specs.Parts.{Parts}
use Rattle.hub_unison.specs.laws.Reading.{alike-stays, reading-cautious}
use Rattle.hub_unison.specs.ReadingOf.{cautious_of}
use Rattle.hub_unison.specs.UnisonReach.{IsCautious}
use Rattle.hub_unison.specs.Written.{IsWrittenAs, Written}
use Rattle.hub_unison.proofs.reading.cautious.Goals as goal

pub returns-clause-wide : goal.returns-clause-wide
returns-clause-wide c =
    let P = c.args.profile in
    IfOk-weaker c.read.result (λ (r : Parts). r ≡ cautious_of P)
    (λ r. (W : Written) → IsWrittenAs W P → IsCautious W r)
    (λ r e W written. subst (λ D. IsCautious W D) (sym e) (reading-cautious W P written)) c.read.ensures

pub returns-clause-alike : goal.returns-clause-alike
returns-clause-alike c = λ alike.
    let P = c.args.profile in
    IfOk-weaker c.read.result (λ (r : Parts). r ≡ cautious_of P) (λ r. r ≡ P)
    (λ r e. e ∙ alike-stays P alike) c.read.ensures
