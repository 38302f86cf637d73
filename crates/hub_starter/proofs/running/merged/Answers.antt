use Rattle.std.proofs.Common.{◌∙◌, ap, length, sym}
use Rattle.hub_starter.proofs.Merging.{merged_alike}
use Rattle.hub_starter.proofs.running.merged.Goals as goal

pub take_over-requires : goal.take_over-requires
take_over-requires c =
    ap length c.into_vec.ensures ∙ (c.requires ∙ sym (ap length c.into_vec-all.ensures))

pub returns-clause-jobs : goal.returns-clause-jobs
returns-clause-jobs c =
    merged_alike c.args.numbers.now c.args.wave _ c.args.jobs _ c.args.later.jobs _ c.from_vec.result
    c.into_vec-all.ensures c.into_vec.ensures (sym c.from_vec.ensures) c.take_over.ensures
