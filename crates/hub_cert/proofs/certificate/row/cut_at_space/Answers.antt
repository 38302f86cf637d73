use Rattle.std.proofs.Common.{◌≡◌, ◌∙◌, ◌+◌, ◌-◌, length, take, drop, Some, None, sym, ap, arith, length-drop}
use Rattle.std.proofs.lemmas.List.{drop_all, take_all}
use Rattle.hub_cert.proofs.Cuts.{space-place}
use Rattle.hub_cert.proofs.certificate.row.cut_at_space.Goals as goal

pub returns-in-Some-clause-before : goal.returns-in-Some-clause-before
returns-in-Some-clause-before c = let s = c.args.bytes.now in ap (λ k. take k s) (sym (space-place s (Some c.in-Some.len) c.in-Some.ensures))

pub returns-in-Some-clause-after : goal.returns-in-Some-clause-after
returns-in-Some-clause-after c =
    let s = c.args.bytes.now in
    let k = c.in-Some.len in
    let whole : take (length s - (k + 1)) (drop (k + 1) s) ≡ drop (k + 1) s = take_all (length s - (k + 1)) (drop (k + 1) s) (omega (arith, length-drop (k + 1) s)) in
    whole ∙ ap (λ n. drop (n + 1) s) (sym (space-place s (Some k) c.in-Some.ensures))

pub returns-in-None-clause-before : goal.returns-in-None-clause-before
returns-in-None-clause-before c = let s = c.args.bytes.now in sym (ap (λ k. take k s) (space-place s None c.in-None.ensures) ∙ take_all (length s) s (omega arith))

pub returns-in-None-clause-after : goal.returns-in-None-clause-after
returns-in-None-clause-after c = let s = c.args.bytes.now in sym (ap (λ k. drop (k + 1) s) (space-place s None c.in-None.ensures) ∙ drop_all (length s + 1) s (omega arith))
