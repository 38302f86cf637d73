-- Roots that have no replica, and turns that name no job.
use Rattle.std.proofs.Common.{◌≡◌, ◌+◌, List, drop, Some, None, ap, sym, ◌∙◌}
use Rattle.std.specs.Prelude.{ℕ, slice_get}
use Rattle.std.specs.List.{flat_map}
use Rattle.hub_path.specs.Path.{Path}
use Rattle.hub_profile.specs.Parts.{Parts}
use Rattle.hub_state.specs.State.{State}
use Rattle.hub_schedule.specs.Refusals.{missing_of, first_missing}
use Rattle.hub_schedule.specs.laws.Lists.{drop_at}
use Rattle.hub_schedule.specs.laws.Missing.{find_after, find_in, lacks}

-- Profile by profile.
pub missing_here : (S : State) (Ps : List Parts) (n : ℕ) (P : Parts) (r : Path) → slice_get Ps n ≡ Some P → missing_of S P.roots ≡ Some r → first_missing S (drop n Ps) ≡ Some r
missing_here S Ps n P r at h = ap (first_missing S) (drop_at Ps n P at) ∙ find_in (lacks S) P.roots (flat_map (λ P. P.roots) (drop (n + 1) Ps)) r h

pub missing_later : (S : State) (Ps : List Parts) (n : ℕ) (P : Parts) → slice_get Ps n ≡ Some P → missing_of S P.roots ≡ None → first_missing S (drop (n + 1) Ps) ≡ first_missing S (drop n Ps)
missing_later S Ps n P at h = sym (ap (first_missing S) (drop_at Ps n P at) ∙ find_after (lacks S) P.roots (flat_map (λ P. P.roots) (drop (n + 1) Ps)) h)
