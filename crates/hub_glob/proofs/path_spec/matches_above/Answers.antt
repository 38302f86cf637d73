use Rattle.std.proofs.Common.{◌≡◌, ◌+◌, true, false, take, sym, arith}
use Rattle.hub_glob.proofs.Paths.{next_name, next_matched, above_after, above_within, any_above}
use Rattle.hub_glob.proofs.path_spec.matches_above.Goals as goal

pub returns-then-push_name : goal.returns-then-push_name
returns-then-push_name c =
    let ps = c.args.parts.now in
    let p = c.args.path.now in
    let matched = next_matched ps c.loop-i.walk p c.loop-i.i c.name.result.now c.text.result.now true c.name.ensures.name c.text.ensures.text c.text.ensures.valid c.loop-i.invariant.0 c.if-push_name.ensures.matched in
    let above : any_above ps (take (c.loop-i.i + 1) p) ≡ true =
    above_after ps p c.loop-i.i c.name.result.now true c.name.ensures.name c.loop-i.invariant.1 matched in
    sym (above_within ps p (c.loop-i.i + 1) c.args.len (omega arith) above)

pub loop-i-preserved : goal.loop-i-preserved
loop-i-preserved c =
    let ps = c.args.parts.now in
    let p = c.args.path.now in
    let matched = next_matched ps c.loop-i.walk p c.loop-i.i c.name.result.now c.text.result.now false c.name.ensures.name c.text.ensures.text c.text.ensures.valid c.loop-i.invariant.0 c.if-push_name.ensures.matched in (
      next_name ps c.loop-i.walk c.push_name.new.self p c.loop-i.i c.name.result.now c.text.result.now c.name.ensures.name c.text.ensures.text c.text.ensures.valid c.loop-i.invariant.0 c.push_name.ensures.pushed,
      above_after ps p c.loop-i.i c.name.result.now false c.name.ensures.name c.loop-i.invariant.1 matched,
    )
