use Rattle.std.proofs.Common.{◌≡◌, ◌∷◌, ◌+◌, ◌-◌, length, take, drop, Some, None, sym, ap, ◌∙◌, arith, length-drop}
use Rattle.std.proofs.lemmas.List.{take_all}
use Rattle.hub_text.specs.Lines.{lines_of, ended}
use Rattle.hub_text.proofs.LineCuts.{found-line}
use Rattle.hub_text.proofs.line.first_line.Goals as goal

pub returns-in-Some-clause-cut : goal.returns-in-Some-clause-cut
returns-in-Some-clause-cut c =
    let s = c.args.bytes.now in
    let k = c.in-Some.len in
    let cut = found-line s (Some k) c.requires c.in-Some.ensures in
    let whole : take (length s - (k + 1)) (drop (k + 1) s) ≡ drop (k + 1) s = take_all (length s - (k + 1)) (drop (k + 1) s) (omega (arith, length-drop (k + 1) s)) in
    cut.1 ∙ ap (λ r. ended (take k s) ∷ lines_of r) (sym whole)

pub returns-in-None-clause-cut : goal.returns-in-None-clause-cut
returns-in-None-clause-cut c = found-line c.args.bytes.now None c.requires c.in-None.ensures
