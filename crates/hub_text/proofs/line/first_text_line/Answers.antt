use Rattle.std.proofs.Common.{◌==◌, ◌∷◌, Some, None, chars, length, sym, ap, ◌∙◌, arith}
use Rattle.std.specs.Str.Pattern.{FindsChar}
use Rattle.std.proofs.lemmas.Str.{chars-nil}
use Rattle.hub_text.specs.Lines.{lines_of, unended}
use Rattle.hub_text.specs.laws.TextCuts.{parted, finds_by}
use Rattle.hub_text.proofs.LineCuts.{ended-text, unended-text, shorter-text}
use Rattle.hub_text.proofs.line.first_text_line.Goals as goal

pub returns-in-Some-clause-cut : goal.returns-in-Some-clause-cut
returns-in-Some-clause-cut c =
    let cut = parted (λ d. d == 10) (FindsChar 10) (finds_by 10) c.args.text.now (Some (c.in-Some.line, c.in-Some.rest)) c.utf8.text c.in-Some.ensures.cases in
    ended-text (chars c.args.text.now) (chars c.in-Some.line.now) (chars c.in-Some.rest.now) cut.0 cut.1 cut.2

pub returns-in-Some-clause-shorter : goal.returns-in-Some-clause-shorter
returns-in-Some-clause-shorter c =
    let cut = parted (λ d. d == 10) (FindsChar 10) (finds_by 10) c.args.text.now (Some (c.in-Some.line, c.in-Some.rest)) c.utf8.text c.in-Some.ensures.cases in
    shorter-text (chars c.args.text.now) (chars c.in-Some.rest.now) c.requires cut.2

pub returns-in-None-clause-cut : goal.returns-in-None-clause-cut
returns-in-None-clause-cut c =
    let cut = parted (λ d. d == 10) (FindsChar 10) (finds_by 10) c.args.text.now None c.utf8.text c.in-None.ensures.cases in
    unended-text (chars c.args.text.now) c.requires cut.0 ∙ ap (λ r. unended (chars c.args.text.now) ∷ lines_of r) (sym chars-nil)

pub returns-in-None-clause-shorter : goal.returns-in-None-clause-shorter
returns-in-None-clause-shorter c = omega (arith, ap length chars-nil, c.requires)
