use Rattle.std.proofs.Common.{◌∙◌, ◌+◌, refl, sym, ap, subst, arith}
use Rattle.std.specs.BTreeSet.{contains}
use Rattle.std.proofs.lemmas.Option.{slice_get_read}
use denote.Ref.{Bor}
use Rattle.hub_path.specs.Path.{Path, path_cmp}
use Rattle.hub_cert.proofs.DistinctRoots.{AreDistinct, distinct-roots, distinct-new, distinct-old, roots-more}
use Rattle.hub_cert.proofs.Seen.{was-there}
use Rattle.hub_cert.proofs.set.refusals.distinct_roots.Goals.{then-branch+in_ok-push, else-branch}
use Rattle.hub_cert.proofs.set.refusals.distinct_roots.Goals as goal

pub loop-number-preserved : goal.loop-number-preserved
loop-number-preserved c =
    let rs = c.args.roots.now in
    let n = c.loop-number.number in
    let x = c.index-roots-number.result in
    let at = slice_get_read rs _ n x refl c.loop-number-test.true c.index-roots-number.is in
    let own = c.path.result in
    let has = contains (λ (p q : Bor Path). path_cmp p.now q.now) c.loop-number.known in
    let new = contains (λ (p q : Bor Path). path_cmp p.now q.now) c.insert.new.self in
    let keys = c.loop-number.invariant.0 in
    let are = c.loop-number.invariant.1 in (
      roots-more rs n x own has new at c.path.ensures c.in_ok-insert.ensures.updates.0 keys,
      elim c.if-branch.branch [
        | then-branch+in_ok-push w ↦ distinct-new rs n c.loop-number.distinct.items c.if-branch.distinct.items (ap (λ v. v.items) w.distinct-is ∙ w.in_ok-push.ensures.items) are
        | else-branch w ↦ subst (AreDistinct rs (n + 1)) (ap (λ v. v.items) (sym w.distinct-is))
            (distinct-old rs n c.loop-number.distinct.items x own has at c.path.ensures keys (was-there c.in_ok-insert.field-0 (has own) c.in_ok-insert.ensures.added w.if-branch.false) are)
      ],
    )

pub returns : goal.returns
returns c = distinct-roots c.args.roots.now c.loop-number.number c.loop-number.distinct.items (omega (arith, c.loop-number-test.false)) (omega arith) c.loop-number.invariant.1
