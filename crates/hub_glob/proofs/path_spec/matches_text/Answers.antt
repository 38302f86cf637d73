use Rattle.hub_glob.proofs.Paths.{next_name, next_matched}
use Rattle.hub_glob.proofs.path_spec.matches_text.Goals as goal

pub loop-i-preserved : goal.loop-i-preserved
loop-i-preserved c =
    let ps = c.args.parts.now in
    let p = c.args.path.now in (
      next_name ps c.loop-i.walk c.push_name-matched.new.self p c.loop-i.i c.name.result.now c.text.result.now c.name.ensures.name c.text.ensures.text c.text.ensures.valid c.loop-i.invariant.0 c.push_name-matched.ensures.pushed,
      λ _. next_matched ps c.loop-i.walk p c.loop-i.i c.name.result.now c.text.result.now c.push_name-matched.result c.name.ensures.name c.text.ensures.text c.text.ensures.valid c.loop-i.invariant.0 c.push_name-matched.ensures.matched,
    )
