use Rattle.std.proofs.Common.{◌≡◌, sym, ap, ◌∙◌}
use Rattle.std.proofs.lemmas.Bool.{false≢true, not-false}
use Rattle.std.specs.Map.Iter.{deref_pair}
use Rattle.hub_path.specs.laws.General.{path_eq-decides}
use Rattle.hub_path.specs.Path.{Path, path_eq}
use Rattle.hub_tree.specs.declared.contents.Mark.{Mark}
use Rattle.hub_tree.proofs.Matching.{one_less, other_items, too_few, too_many, all_same, refuted, unequal, by_none, step_none, step_some}
use Rattle.hub_tree.proofs.archive.have_same_marks.Goals as goal

pub returns-in_default-clause-same : goal.returns-in_default-clause-same
returns-in_default-clause-same c =
    refuted _ (too_few c.args.marks.now.entries c.args.others.now.entries c.loop-path.path-iterator c.loop-path.rest c.next.new.self (c.in-Some.path.now, c.in-Some.mark.now)
    c.loop-path.invariant c.in-Some.ensures.steps c.in_default.ensures.steps.0)

pub returns-then-ne-clause-same : goal.returns-then-ne-clause-same
returns-then-ne-clause-same c =
    let p : Path = c.in-Some.path.now in
    let q : Path = c.in-Some-next.other_path.now in
    refuted _ (other_items c.args.marks.now.entries c.args.others.now.entries c.loop-path.path-iterator c.loop-path.rest c.next.new.self c.next-in-loop-path.new.self
    (p, c.in-Some.mark.now) (q, c.in-Some-next.other.now) c.loop-path.invariant c.in-Some.ensures.steps c.in-Some-next.ensures.steps
    (λ e. unequal (path_eq p q) (p ≡ q) (path_eq-decides p q).1 (sym c.ne.ensures ∙ c.if-ne.true) (ap (λ (x : Path × Mark). x.0) e)))

pub returns-then-not-is_equal-clause-same : goal.returns-then-not-is_equal-clause-same
returns-then-not-is_equal-clause-same c =
    refuted _ (other_items c.args.marks.now.entries c.args.others.now.entries c.loop-path.path-iterator c.loop-path.rest c.next.new.self c.next-in-loop-path.new.self
    (c.in-Some.path.now, c.in-Some.mark.now) (c.in-Some-next.other_path.now, c.in-Some-next.other.now) c.loop-path.invariant c.in-Some.ensures.steps c.in-Some-next.ensures.steps
    (λ e. false≢true (sym c.if-not-is_equal.true ∙ c.is_equal.ensures.1 (ap (λ (x : Path × Mark). x.1) e))))

pub loop-path-preserved : goal.loop-path-preserved
loop-path-preserved c =
    let p : Path = c.in-Some.path.now in
    let q : Path = c.in-Some-next.other_path.now in
    let m : Mark = c.in-Some.mark.now in
    let same : p ≡ q = (path_eq-decides p q).0 (not-false (path_eq p q) (sym c.ne.ensures ∙ c.if-ne.false)) in
    one_less c.args.marks.now.entries c.args.others.now.entries c.loop-path.path-iterator c.loop-path.rest c.next.new.self c.next-in-loop-path.new.self
    (p, m) (q, c.in-Some-next.other.now) c.loop-path.invariant c.in-Some.ensures.steps c.in-Some-next.ensures.steps
    (ap (λ (x : Path). (x, m)) same ∙ ap (λ (x : Mark). (q, x)) (c.is_equal.ensures.0 c.if-not-is_equal.false))

pub returns-clause-same : goal.returns-clause-same
returns-clause-same c =
    let all = c.args.marks.now.entries in
    let others = c.args.others.now.entries in
    by_none _ c.next-2.result c.is_none.result c.is_none.ensures
    (λ e. all_same all others c.loop-path.path-iterator c.loop-path.rest c.loop-path.invariant c.in-None.ensures.steps.0 (step_none deref_pair c.loop-path.rest c.next-2.new.self c.next-2.result c.next-2.ensures.steps e))
    (λ x e. too_many all others c.loop-path.path-iterator c.loop-path.rest c.next-2.new.self (x.0.now, x.1.now) c.loop-path.invariant c.in-None.ensures.steps.0
    (step_some deref_pair c.loop-path.rest c.next-2.new.self c.next-2.result x c.next-2.ensures.steps e))
