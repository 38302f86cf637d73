use Rattle.std.proofs.Common.{◌∙◌, sym}
use Rattle.hub_unison.specs.ReadingOf.{bar_stays}
use Rattle.hub_unison.proofs.KeptLines.{bar-sure, bar-unread, bar-unsure, gives, leaves, read-is, read-not}
use Rattle.hub_unison.proofs.kept.kept_bar.Goals as goal

pub returns-then-not-branch : goal.returns-then-not-branch
returns-then-not-branch c =
    let b = c.args.bar.now in
    leaves (bar_stays b) b (bar-unsure b (sym c.in_ok-is_plain.ensures ∙ c.if-not-branch.true))

pub returns-in-Some : goal.returns-in-Some
returns-in-Some c =
    let b = c.args.bar.now in
    let two = read-is b.spec c.in_ok-spec.field-0 c.in-Some.spec c.in-Some.is c.in_ok-spec.ensures in
    gives (bar_stays b) b (record { side = b.side; bars = b.bars; spec = c.in-Some.spec })
    (bar-sure b two.0 (sym c.in_ok-is_plain.ensures ∙ c.if-not-branch.false))
    (λ i. record { side = b.side; bars = b.bars; spec = two.1 i })

pub returns-in-None : goal.returns-in-None
returns-in-None c =
    let b = c.args.bar.now in
    leaves (bar_stays b) b (bar-unread b (read-not b.spec c.in_ok-spec.field-0 c.in-None.is c.in_ok-spec.ensures))
