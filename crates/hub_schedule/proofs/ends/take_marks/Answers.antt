use Rattle.std.proofs.Common.{List, [], ◌∷◌, ◌++◌, sym, ap, ◌∙◌, subst, append-nil, append_assoc}
use Rattle.hub_reconcile.specs.laws.Views.{reach-names}
use Rattle.hub_path.specs.Path.{Path}
use Rattle.hub_tree.specs.Tree.{Archive, with_mark}
use Rattle.hub_tree.specs.declared.contents.Mark.{Mark}
use Rattle.hub_schedule.proofs.Merging.{IsTaken, taken_more, taken_same, taken_all}
use Rattle.hub_schedule.proofs.ends.take_marks.Goals as goal

pub set-requires : goal.set-requires
set-requires c = reach-names c.args.profile.now c.in-Some.path.now (sym c.reaches.ensures ∙ c.if-reaches.true)

pub loop-path-preserved-in-Continue-1 : goal.loop-path-preserved-in-Continue-1
loop-path-preserved-in-Continue-1 c =
    let inv = c.loop-path.invariant in
    let es : List (Path × Mark) = inv.0 in
    let x : Path × Mark = (c.in-Some.path.now, c.in-Some.field-0-1.now) in (
      es ++ x ∷ [],
      append_assoc es (x ∷ []) c.next.new.self ∙ ap (λ (r : List (Path × Mark)). es ++ r) (sym c.in-Some.ensures.steps) ∙ inv.1,
      subst (λ (a : Archive). IsTaken c.args.profile.now c.args.next.now (es ++ x ∷ []) c.args.merged.now a)
          (sym (c.in_ok-set.ensures.ok ∙ ap (with_mark c.loop-path.merged c.in-Some.path.now) c.mark_at.ensures.mark))
          (taken_more c.args.profile.now c.args.next.now c.args.merged.now c.loop-path.merged es x inv.2 (sym c.reaches.ensures ∙ c.if-reaches.true)),
    )

pub loop-path-preserved : goal.loop-path-preserved
loop-path-preserved c =
    let inv = c.loop-path.invariant in
    let es : List (Path × Mark) = inv.0 in
    let x : Path × Mark = (c.in-Some.path.now, c.in-Some.field-0-1.now) in (
      es ++ x ∷ [],
      append_assoc es (x ∷ []) c.next.new.self ∙ ap (λ (r : List (Path × Mark)). es ++ r) (sym c.in-Some.ensures.steps) ∙ inv.1,
      taken_same c.args.profile.now c.args.next.now c.args.merged.now c.loop-path.merged es x inv.2 (sym c.reaches.ensures ∙ c.if-reaches.false),
    )

pub returns : goal.returns
returns c =
    let inv = c.loop-path.invariant in
    let all = sym (append-nil inv.0) ∙ ap (λ (r : List (Path × Mark)). inv.0 ++ r) (sym c.in-None.ensures.steps.0) ∙ inv.1 in
    taken_all c.args.profile.now c.args.next.now c.args.paths.now c.args.merged.now c.loop-path.merged inv.0 all inv.2
