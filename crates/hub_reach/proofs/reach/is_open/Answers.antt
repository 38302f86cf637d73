use Rattle.std.proofs.Common.{◌∙◌, not, sym, ap, arith}
use Rattle.hub_reach.specs.Reach.{is_ignored}
use Rattle.hub_reach.specs.laws.Prefix.{closed-at, open-ignored, open-short}
use Rattle.hub_reach.proofs.reach.is_open.Goals as goal
use Rattle.hub_reach.proofs.reach.is_open.Goals.{else-len-i-via-then-len-i+else-is_ignored, else-len-i-via-else-len-i}

pub returns-then-is_ignored : goal.returns-then-is_ignored
returns-then-is_ignored c =
    let ignored = sym c.is_ignored.ensures ∙ c.if-is_ignored.true in
    ap not (sym (closed-at (is_ignored c.args.profile.now) c.args.kept.now c.args.path.now c.loop-i.i c.requires (omega arith) (omega arith) ignored))

pub loop-i-preserved : goal.loop-i-preserved
loop-i-preserved c =
    let ignored = is_ignored c.args.profile.now in
    elim c.else-len-i.branch [
      | else-len-i-via-then-len-i+else-is_ignored w ↦ open-ignored ignored c.args.kept.now c.args.path.now c.loop-i.i (omega arith) (sym w.is_ignored.ensures ∙ w.if-is_ignored.false) c.loop-i.invariant
      | else-len-i-via-else-len-i w ↦ open-short ignored c.args.kept.now c.args.path.now c.loop-i.i c.requires (omega arith) (omega arith) c.loop-i.invariant
    ]
