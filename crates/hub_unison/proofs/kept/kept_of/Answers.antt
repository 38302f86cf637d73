use Rattle.std.proofs.Common.{◌∙◌, ◌==◌, ap, length, not, sym}
use Rattle.hub_unison.proofs.KeptLines.{gone-spare, gone-unknown, gone-unread, read-is, read-not, spare-at, stays-alone, stays-sparing}
use Rattle.hub_unison.specs.ReadingOf.{spare_of}
use Rattle.hub_unison.proofs.kept.kept_of.Goals as goal

pub returns-in_default : goal.returns-in_default
returns-in_default c =
    let s = c.args.spec.now in
    gone-unread s (sym c.in_ok-is_simple.ensures ∙ c.if-not-branch.false) (read-not s c.in_ok-copy.field-0 c.in_default.is c.in_ok-copy.ensures)

pub returns-then-not-branch : goal.returns-then-not-branch
returns-then-not-branch c =
    gone-unknown c.args.spec.now (sym c.in_ok-is_simple.ensures ∙ c.if-not-branch.true)

pub returns-then-is_empty : goal.returns-then-is_empty
returns-then-is_empty c =
    let s = c.args.spec.now in
    let two = read-is s c.in_ok-copy.field-0 c.in-Some.copy c.in-Some.is c.in_ok-copy.ensures in
    stays-alone s c.in-Some.copy two.1 two.0 (sym c.in_ok-is_simple.ensures ∙ c.if-not-branch.false)
    (ap not (ap (λ ds. length ds == 0) (sym c.in_ok-spares.ensures) ∙ (sym c.is_empty.ensures ∙ c.if-is_empty.true)))

pub returns-in-Some-2 : goal.returns-in-Some-2
returns-in-Some-2 c =
    let s = c.args.spec.now in
    let two = read-is s c.in_ok-copy.field-0 c.in-Some.copy c.in-Some.is c.in_ok-copy.ensures in
    let own = spare-at s c.kind.result c.in_ok-spares.spares c.in_ok-spare.field-0 c.kind.ensures c.in_ok-spares.ensures c.in_ok-spare.ensures in
    let spare = read-is (spare_of s) c.in_ok-spare.field-0 c.in-Some-2.spare c.in-Some-2.is own in
    stays-sparing s c.in-Some.copy c.in-Some-2.spare two.1 spare.1 two.0 (sym c.in_ok-is_simple.ensures ∙ c.if-not-branch.false)
    (ap not (ap (λ ds. length ds == 0) (sym c.in_ok-spares.ensures) ∙ (sym c.is_empty.ensures ∙ c.if-is_empty.false))) spare.0

pub returns-in-None : goal.returns-in-None
returns-in-None c =
    let s = c.args.spec.now in
    let own = spare-at s c.kind.result c.in_ok-spares.spares c.in_ok-spare.field-0 c.kind.ensures c.in_ok-spares.ensures c.in_ok-spare.ensures in
    gone-spare s (sym c.in_ok-is_simple.ensures ∙ c.if-not-branch.false)
    (ap not (ap (λ ds. length ds == 0) (sym c.in_ok-spares.ensures) ∙ (sym c.is_empty.ensures ∙ c.if-is_empty.false)))
    (read-not (spare_of s) c.in_ok-spare.field-0 c.in-None.is own)
