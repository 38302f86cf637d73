use Rattle.std.proofs.Common.{◌≡◌, ◌∙◌, Option, Some, None, sym, ◌∷◌, []}
use Rattle.std.specs.Prelude.{if◌then◌else◌}
use Rattle.std.proofs.lemmas.Result.{IfOk-weaker}
use Rattle.hub_glob.specs.declared.piece.Part.TheVariants.{Brace}
use Rattle.hub_glob.specs.Specification.{Specification}
use Rattle.hub_unison.specs.Matching.{widened}
use Rattle.hub_unison.specs.ReadingOf.{read_back, spare_stays}
use Rattle.hub_unison.proofs.KeptLines.{leaves, spare-simple, spare-starred, spare-unknown}
use Rattle.hub_unison.proofs.kept.spared_line.Goals as goal

pub returns-then-branch : goal.returns-then-branch
returns-then-branch c =
    let s = c.args.spec.now in
    IfOk-weaker c.copy_of.result (λ (o : Option Specification). o ≡ read_back s)
    (λ o. o ≡ (if spare_stays s then Some (widened s) else None))
    (λ o e. spare-simple s o (sym c.in_ok-is_simple.ensures ∙ c.if-branch.true) e) c.copy_of.ensures

pub returns-then-not-branch : goal.returns-then-not-branch
returns-then-not-branch c =
    let s = c.args.spec.now in
    leaves (spare_stays s) (widened s) (spare-unknown s (sym c.in_ok-is_known.ensures ∙ c.if-not-branch.true))

pub returns : goal.returns
returns c =
    let s = c.args.spec.now in
    IfOk-weaker c.spec_of_choices.result
    (λ (o : Option Specification). o ≡ read_back (record { kind = c.kind.result; pattern = Brace c.in_ok-choices.choices ∷ [] }))
    (λ o. o ≡ (if spare_stays s then Some (widened s) else None))
    (λ o e. spare-starred s c.kind.result c.in_ok-choices.choices o (sym c.in_ok-is_simple.ensures ∙ c.if-branch.false)
    (sym c.in_ok-is_known.ensures ∙ c.if-not-branch.false) c.kind.ensures c.in_ok-choices.ensures e) c.spec_of_choices.ensures
