use Rattle.std.proofs.Common.{◌∙◌, codes, sym, ap, ap₂}
use Rattle.std.proofs.lemmas.Bool.{not-false, not-true}
use Rattle.clap.specs.Words.{found_of, first_value, rows_of}
use Rattle.hub_cli.specs.Words.{operands_of, reading_in}
use Rattle.hub_cli.proofs.WordsFacts.{about_in, reach_in}
use Rattle.hub_cli.proofs.words.asked_in.Goals as goal

pub returns-then-ne : goal.returns-then-ne
returns-then-ne c =
    c.about_files.ensures ∙ sym (about_in c.args.matches.now c.in-Some.name.now c.in-Some.operands.now c.in-Some.ensures.name c.in-Some.ensures.rows (not-true _ (sym c.ne.ensures ∙ c.if-ne.true)))

pub returns-in_err-profile : goal.returns-in_err-profile
returns-in_err-profile c =
    let path = first_value (found_of c.in-Some.operands.now) (codes "path") in
    let asked = reach_in c.args.matches.now c.in-Some.name.now c.in-Some.operands.now c.in-Some.ensures.name c.in-Some.ensures.rows (not-false _ (sym c.ne.ensures ∙ c.if-ne.false)) in
    rw c.from_residual.ensures (sym (asked ∙ ap (λ p. operands_of (reading_in (rows_of (found_of c.in-Some.operands.now))) p path) (sym c.in_err-profile.ensures)))

pub returns-in_err-path : goal.returns-in_err-path
returns-in_err-path c =
    let asked = reach_in c.args.matches.now c.in-Some.name.now c.in-Some.operands.now c.in-Some.ensures.name c.in-Some.ensures.rows (not-false _ (sym c.ne.ensures ∙ c.if-ne.false)) in
    rw c.from_residual-in_err-path.ensures (sym (asked ∙ ap₂ (operands_of (reading_in (rows_of (found_of c.in-Some.operands.now)))) (sym c.in_ok-profile.ensures) (sym c.in_err-path.ensures)))

pub returns : goal.returns
returns c =
    let asked = reach_in c.args.matches.now c.in-Some.name.now c.in-Some.operands.now c.in-Some.ensures.name c.in-Some.ensures.rows (not-false _ (sym c.ne.ensures ∙ c.if-ne.false)) in
    let operands = ap₂ (operands_of (reading_in (rows_of (found_of c.in-Some.operands.now)))) (sym c.in_ok-profile.ensures) (sym c.in_ok-path.ensures) in
    rw c.reading_in-reading.ensures (sym (asked ∙ operands))
