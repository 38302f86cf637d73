use Rattle.std.proofs.Common.{◌∙◌, ◌≡◌, ◌&&◌, ◌==◌, Bool, List, ap, arith, length, sym, vec_len}
use Rattle.std.specs.Prelude.{ℕ}
use Rattle.hub_cert.specs.declared.fault.CheckFault.{CheckFault}
use Rattle.hub_profile.specs.Parts.{Parts}
use Rattle.hub_report.specs.Graph.{graph_text}
use Rattle.hub_serve.specs.Unison.{archives_as}
use Rattle.hub_serve.proofs.Told.{drawn}
use Rattle.hub_serve.proofs.rounds.graph_of.Goals as goal
use Rattle.hub_serve.proofs.rounds.graph_of.Goals.{then-is_empty, else-is_empty}

pub returns : goal.returns
returns c =
    let own = c.in_ok-archives.ensures ∙ ap (λ (Ps : List Parts). archives_as c.args.reading Ps) c.profiles-profiles.ensures.value in
    let none : Bool = length c.in_ok-archives.archives.items == 0 in
    let same : vec_len c.in_ok-archives.archives ≡ length c.in_ok-archives.archives.items = omega (arith, c.in_ok-archives.archives.ok.0) in
    let lines : (length c.in_ok-clashes.clashes == 0) ≡ c.is_empty.result =
    sym (c.is_empty.ensures ∙ ap (λ (es : List CheckFault). length es == 0) c.lines-lines.ensures) in
    drawn c.args.reading c.args.set.now c.in_ok-clashes.clashes c.in_ok-archives.archives.items _ _ own c.in_ok-clashes.ensures.lines c.in_ok-clashes.ensures.disproved
    c.in_ok-clashes.ensures.rest c.in_ok-clashes.ensures.safe (c.in_ok-text.ensures
    ∙ (ap (λ (Ps : List Parts). graph_text Ps c.lines-lines.result.now c.as_slice.result.now) c.profiles-profiles.ensures.value
    ∙ (ap (λ (es : List CheckFault). graph_text c.args.set.now.profiles es c.as_slice.result.now) c.lines-lines.ensures
    ∙ ap (λ (ns : List (ℕ × ℕ)). graph_text c.args.set.now.profiles c.in_ok-clashes.clashes ns) c.as_slice.ensures.value)))
    (elim c.if-is_empty.branch [
      | then-is_empty w ↦ w.safe-is ∙ (w.is_empty-safe.ensures ∙ (ap (λ (n : ℕ). n == 0) same ∙ ap (λ b. b && none) (sym (lines ∙ w.if-is_empty.true))))
      | else-is_empty w ↦ w.safe-is ∙ (w.if-is_empty.false ∙ ap (λ b. b && none) (sym (lines ∙ w.if-is_empty.false)))
    ])
