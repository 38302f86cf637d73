use Rattle.std.proofs.Common.{◌∙◌, ap, arith, drop, length, slice_get, subst, sym}
use Rattle.std.specs.Vec.Iter.{into_iter_items, into_iter_len}
use Rattle.hub_archives.proofs.Members.{AreKeptBelow, all_before, member_held, members_kept, next_of, one_more_member}
use Rattle.hub_archives.proofs.folded.find_folded_archives.Goals as goal

pub loop-section-preserved : goal.loop-section-preserved
loop-section-preserved c =
    let at = c.loop-section in
    let steps = c.in-Some.ensures.steps in
    let Qs = c.args.folded in
    let n = at.section-iterator.count in
    let two = next_of Qs n c.in-Some.profile (into_iter_items at.section-iterator.iter) (into_iter_items c.next.new.self.iter) at.invariant.left steps.0.0 in
    record {
      left = two.1 ∙ ap (λ m. drop m Qs) (sym steps.2);
      long =
          let was = at.invariant.long in
          let gone = steps.0.1 in
          let short = ap length steps.0.0 in
          omega arith;
      kept = subst (AreKeptBelow c.args.folders.now c.args.folds.now Qs) (sym steps.2)
          (one_more_member c.args.folders.now c.args.folds.now Qs n c.in-Some.profile c.fold_at-own.result c.in_ok-folder.field-0 two.0
          (λ b here. c.fold_at-own.ensures b (ap (slice_get c.args.folds.now) steps.1 ∙ here))
          c.in_ok-folder.ensures c.in_default.is at.invariant.kept);
    }

pub returns-in-Some-2 : goal.returns-in-Some-2
returns-in-Some-2 c Ms folds folded =
    let at = c.loop-section in
    let steps = c.in-Some.ensures.steps in
    let Qs = c.args.folded in
    let n = at.section-iterator.count in
    let two = next_of Qs n c.in-Some.profile (into_iter_items at.section-iterator.iter) (into_iter_items c.next.new.self.iter) at.invariant.left steps.0.0 in
    member_held c.args.folders.now c.args.folds.now Qs n c.in-Some.profile c.fold_at-own.result c.in_ok-folder.field-0 two.0
    (λ b here. c.fold_at-own.ensures b (ap (slice_get c.args.folds.now) steps.1 ∙ here))
    c.in_ok-folder.ensures Ms folds folded c.in-Some.section c.in-Some-2.folder c.in-Some-2.path steps.1 c.in-Some-2.is

pub returns : goal.returns
returns c Ms folds folded =
    let at = c.loop-section in
    let none = c.in-None.ensures.steps in
    let n = at.section-iterator.count in
    members_kept c.args.folders.now c.args.folds.now c.args.folded n Ms folds folded
    (all_before c.args.folded (into_iter_items at.section-iterator.iter) n (into_iter_len at.section-iterator.iter) at.invariant.left at.invariant.long none.0.0)
    at.invariant.kept
