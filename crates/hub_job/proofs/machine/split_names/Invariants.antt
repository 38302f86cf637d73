use Rattle.std.proofs.Common.{◌≡◌, ◌∷◌, [], ◌++◌, not}
use Rattle.std.specs.List.{filter, list_any}
use Rattle.hub_reach.specs.Reach.{reach}
use Rattle.hub_job.proofs.machine.split_names.Given as goal

abbrev pub invariant-loop-name : goal.invariant-loop-name
invariant-loop-name l = record {
  reached : l.reached.items ≡ filter (λ n. reach l.profile (l.path ++ n ∷ [])) l.yielded;
  others : l.others ≡ list_any (λ n. not (reach l.profile (l.path ++ n ∷ []))) l.yielded;
}
