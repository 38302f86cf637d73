use Rattle.std.proofs.Common.{◌≡◌, ◌==◌, ◌||◌, ◌&&◌, ◌+◌, not, length, take, arith, length-drop, subst, ap, ◌∙◌}
use Rattle.std.specs.Io.KnownBytes.{Appends}
use Rattle.std.proofs.KnownBytes.{Appends-trans}
use Rattle.std.proofs.Math.Bool.{or-false}
use borrow.Author.Tests.{ne_eqb}
use Rattle.hub_text.proofs.Written.{rest-more, front-more}
use Rattle.hub_text.proofs.watched.WatchedWrite.write_all.Goals as goal

pub loop-rest-preserved : goal.loop-rest-preserved
loop-rest-preserved g c =
    let before = c.loop-rest.invariant in
    let bytes = c.args.bytes.now in
    let rest = c.loop-rest.rest.now in
    let count = c.in_ok-count.count in
    let old = g.W.Write.contents c.args.self.now.device in
    let new = g.W.Write.contents c.write.new.self.device in
    let bound = c.in_ok-count.ensures.bound in
    let more : Appends old new (take (before.0 + count) bytes) =
    subst (Appends old new) (front-more bytes rest before.0 count before.1 before.2) (Appends-trans old _ new (take before.0 bytes) (take count rest) before.3 c.in_ok-count.ensures.bytes) in
    let good : (c.loop-rest.self.failed || ((count == 0) && not (length rest == 0))) ≡ c.loop-rest.self.failed =
    ap (λ b. c.loop-rest.self.failed || (b && not (length rest == 0))) (ne_eqb count 0 c.if-count-eq0.false) ∙ or-false c.loop-rest.self.failed in (
      before.0 + count,
      omega (arith, ap length before.2, length-drop before.0 bytes),
      rest-more bytes rest before.0 count before.1 before.2,
      more,
      c.in_ok-count.ensures.failed ∙ good ∙ before.4,
    )
