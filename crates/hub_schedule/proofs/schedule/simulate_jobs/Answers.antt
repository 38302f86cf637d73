use Rattle.std.proofs.Common.{sym}
use Rattle.std.specs.Prelude.{slice_index_or}
use Rattle.std.proofs.lemmas.Option.{slice_get-get_or}
use Rattle.hub_schedule.specs.laws.Missing.{have_replicas}
use Rattle.hub_schedule.proofs.schedule.simulate_jobs.Goals as goal

pub run_schedule-requires : goal.run_schedule-requires
run_schedule-requires c =
    let js = c.args.schedule.now in
    record {
      there = have_replicas c.args.state.now c.args.profiles.now (sym c.in_default.ensures.value);
      numbers = λ k d h. c.in_default-find_bad_turn.ensures k (slice_index_or js k d) (slice_get-get_or js k d h);
    }
