use Rattle.std.proofs.Common.{◌∙◌, ap, ◌++◌, map, arith}
use Rattle.std.proofs.lemmas.List.{take_all}
use Rattle.hub_glob.specs.forms.Choosing.{each_with_each}
use Rattle.hub_glob.proofs.Choosings.{each_step}
use Rattle.hub_glob.proofs.choosing.each_with_each.Goals as goal

pub loop-front-preserved : goal.loop-front-preserved
loop-front-preserved c =
    each_step c.args.fronts.now c.args.backs.now c.loop-front.all.items c.push_with_each.new.all.items c.loop-front.front-index c.front-item.result (omega arith) c.front-item.is
    c.loop-front.invariant (c.in_ok-push_with_each.ensures ∙ ap (λ l. c.loop-front.all.items ++ map (λ d. l ++ d) c.args.backs.now) c.as_slice.ensures)

pub returns : goal.returns
returns c = c.loop-front.invariant ∙ ap (λ ls. each_with_each ls c.args.backs.now) (take_all c.loop-front.front-index c.args.fronts.now (omega arith))
