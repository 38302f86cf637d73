use Rattle.std.proofs.Common.{◌≡◌, ℕ, List, Result, Ok, subst, sym, chars}
use Rattle.std.specs.Prelude.{OnOk}
use Rattle.hub_profile.specs.declared.fault.Fault.{Fault}
use Rattle.hub_profile.proofs.Runs.{line_skipped, line_set}
use Rattle.hub_profile.proofs.line_by_line.take_line.Goals as goal

pub returns-then-not-is_setting-clause-ok : goal.returns-then-not-is_setting-clause-ok
returns-then-not-is_setting-clause-ok g c =
    line_skipped g.D.FromLines.table c.args.said.now c.args.number (chars c.args.line.now) (chars c.line_text-line.result.now) c.is_setting.result
    c.line_text-line.ensures c.is_setting.ensures c.if-not-is_setting.true

pub returns-clause-ok : goal.returns-clause-ok
returns-clause-ok g c =
    let pair : List ℕ × List ℕ = (chars c.in_ok-name.name.now, chars c.in_ok-name.value.now) in
    subst (λ (r : Result _ Fault). OnOk c.take.result (r ≡ Ok c.take.new.self))
    (sym (line_set g.D.FromLines.table c.args.said.now c.args.number (chars c.args.line.now) (chars c.line_text-line.result.now) c.is_setting.result pair
    c.line_text-line.ensures c.is_setting.ensures c.if-not-is_setting.false c.in_ok-name.ensures.ok)) c.take.ensures.ok
