use Rattle.std.proofs.Common.{◌≡◌, ◌∙◌, IfOk, string_bytes, sym, ap, subst}
use Rattle.hub_cert.specs.declared.goal.Goal.{Goal}
use Rattle.hub_cert.specs.Writing.{goal_text, line}
use Rattle.hub_cert.proofs.GoalLines.{breach-line, clash-told}
use Rattle.hub_cert.proofs.certificate.writing.goal_line.Goals as goal

pub returns-in-Clash : goal.returns-in-Clash
returns-in-Clash c =
    let m = c.in-Clash in
    subst (λ bs. IfOk c.format.result (λ s. string_bytes s ≡ bs)) (clash-told c.args.goal m.writer m.other m.place c.place_word-word.result.now m.is c.place_word-word.ensures) c.format.ensures.ok

pub returns-in-Breach : goal.returns-in-Breach
returns-in-Breach c =
    let m = c.in-Breach in
    let f = c.format-in-Breach in
    subst (λ bs. IfOk f.result (λ s. string_bytes s ≡ bs)) (breach-line m.profile m.rule ∙ ap (λ (g : Goal). line (goal_text g)) (sym m.is)) f.ensures.ok
