use Rattle.std.proofs.Common.{◌≡◌, ◌<◌, ℕ, Some}
use Rattle.std.specs.Prelude.{slice_get}
use Rattle.hub_schedule.proofs.refusals.find_bad_turn.Given as goal

abbrev pub invariant-loop-turn : goal.invariant-loop-turn
invariant-loop-turn l = (i j : ℕ) → i < l.turn → slice_get l.schedule i ≡ Some j → j < l.jobs
