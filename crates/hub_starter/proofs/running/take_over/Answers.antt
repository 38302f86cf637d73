use Rattle.std.proofs.Common.{◌≡◌, ◌∙◌, length, sym, arith}
use Rattle.hub_text.specs.laws.List.{no-items}
use Rattle.hub_starter.proofs.Merging.{all_merged, none_merged, place_there, put_or_left}
use Rattle.hub_starter.proofs.running.take_over.Goals as goal

pub loop-job-init : goal.loop-job-init
loop-job-init c =
    none_merged c.args.numbers.now c.args.wave c.args.all.now.items c.args.own.items c.requires

pub put_own-requires : goal.put_own-requires
put_own-requires c =
    let fewer = c.pop.new.self.items in
    let at : c.len-number.result ≡ length fewer = c.len-number.ensures ∙ c.pop.new.self.ok.0 in
    let l = place_there c.args.numbers.now c.args.wave c.args.all.now.items c.args.own.items
    c.loop-job.own.items c.loop-job.all.items fewer c.in-Some.job c.in-Some.ensures.items
    c.loop-job.invariant c.requires in
    omega (arith, at, l)

pub loop-job-preserved : goal.loop-job-preserved
loop-job-preserved c =
    let fewer = c.pop.new.self.items in
    let at : c.len-number.result ≡ length fewer = c.len-number.ensures ∙ c.pop.new.self.ok.0 in
    put_or_left c.args.numbers.now c.args.wave c.args.all.now.items c.args.own.items
    c.loop-job.own.items c.loop-job.all.items fewer c.in-Some.job c.in-Some.ensures.items
    c.loop-job.invariant c.len-number.result c.put_own.new.all.items at c.requires
    c.put_own.ensures.own c.put_own.ensures.others

pub returns : goal.returns
returns c =
    all_merged c.args.numbers.now c.args.wave c.args.all.now.items c.args.own.items
    c.loop-job.own.items c.loop-job.all.items
    (no-items c.loop-job.own.items (sym c.loop-job.own.ok.0 ∙ c.in_default.ensures.cases.0))
    c.loop-job.invariant
