use Rattle.std.proofs.Common.{◌≡◌, ◌∙◌, ◌||◌, ◌++◌, ◌∷◌, [], ap, sym, true, arith}
use Rattle.std.specs.List.{list_any}
use Rattle.std.proofs.lemmas.Bool.{or_right}
use Rattle.hub_path.specs.Path.{path_eq}
use Rattle.hub_unison.specs.ReadingOf.{is_below_some}
use Rattle.hub_folded.proofs.TopValues.{top-kept, top-passed}
use Rattle.hub_folded.proofs.tops.topmost.Goals.{then-lies_below-via-then-lies_below, then-lies_below-via-else-lies_below+then-is_among}
use Rattle.hub_folded.proofs.tops.topmost.Goals as goal

pub loop-path-preserved-then-lies_below : goal.loop-path-preserved-then-lies_below
loop-path-preserved-then-lies_below c =
    let paths = c.args.paths.now in
    let q = c.path-item.result in
    let old = c.loop-path.tops in
    let passed : (is_below_some paths q || list_any (λ top. path_eq top q) old) ≡ true =
    elim c.then-lies_below.branch [
      | then-lies_below-via-then-lies_below w ↦
          ap (λ b. b || list_any (λ top. path_eq top q) old) (sym c.lies_below.ensures ∙ w.if-lies_below.true)
      | then-lies_below-via-else-lies_below+then-is_among w ↦
          or_right (is_below_some paths q) (list_any (λ top. path_eq top q) old)
          (ap (list_any (λ top. path_eq top q)) (sym w.as_slice.ensures) ∙ (sym w.is_among.ensures ∙ w.if-is_among.true))
    ] in
    top-passed paths c.loop-path.path-index q (omega arith) c.path-item.is old c.loop-path.invariant passed

pub loop-path-preserved : goal.loop-path-preserved
loop-path-preserved c =
    let paths = c.args.paths.now in
    let q = c.path-item.result in
    let old = c.loop-path.tops in
    top-kept paths c.loop-path.path-index q (omega arith) c.path-item.is old c.loop-path.invariant c.push.new.self
    (c.in_ok-push.ensures.ok ∙ ap (λ x. old ++ x ∷ []) c.in_ok-copy.ensures)
    (λ i. (sym c.lies_below.ensures ∙ c.if-lies_below.false) i
    || (ap (list_any (λ top. path_eq top q)) (sym c.as_slice.ensures) ∙ (sym c.is_among.ensures ∙ c.if-is_among.false)) i)
