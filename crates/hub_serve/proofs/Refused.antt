-- What is refused for an overlap or a breach isn't safe.
use Rattle.std.proofs.Common.{ℕ, inl, inr}
use Rattle.hub_path.specs.Path.{Path}
use Rattle.hub_cert.specs.Set.{Members, IsSafeSet}
use Rattle.hub_cert.specs.declared.goal.Place.{Place}
use Rattle.hub_cert.specs.declared.fault.CheckFault.TheVariants as fault
use Rattle.hub_search.specs.Search.{IsFirstFault}
use Rattle.hub_bundle.specs.declared.sections.BundleContents.{BundleContents}
use Rattle.hub_bundle.specs.Sections.{members}
use Rattle.hub_serve.specs.declared.task.Task.{Task}
use Rattle.hub_serve.specs.declared.task.Task.TheVariants as task
use Rattle.hub_serve.specs.Told.{IsRefusedFor}

-- What is shown of a set that isn't safe.
abbrev pub OverlapsShown : Type 0
OverlapsShown = (S : Members) (w o : ℕ) (place : Place) (held path : Path) → IsFirstFault S (fault.Overlap w o place held path) → IsSafeSet S → ⊥

abbrev pub BreachesShown : Type 0
BreachesShown = (S : Members) (p k : ℕ) (path : Path) → IsFirstFault S (fault.Breach p k path) → IsSafeSet S → ⊥

-- An overlap or a breach is told only as the first fault, or as one of all faults: so the set isn't safe.
pub overlap-refused : OverlapsShown → (t : Task) (c : BundleContents) (w o : ℕ) (place : Place) (held path : Path) → IsRefusedFor t c (fault.Overlap w o place held path) → IsSafeSet (members c) → ⊥
overlap-refused shown t c w o place held path (inl h) = absurd h.0
overlap-refused shown (task.Check reading) c w o place held path (inr (inl h)) = cc
overlap-refused shown (task.Check reading) c w o place held path (inr (inr h)) = shown (members c) w o place held path h
overlap-refused shown (task.RunJobs n S) c w o place held path (inr (inl h)) = cc
overlap-refused shown (task.RunJobs n S) c w o place held path (inr (inr h)) = shown (members c) w o place held path h
overlap-refused shown (task.RunByRounds n S) c w o place held path (inr h) = h.disproved
overlap-refused shown (task.RunInOrder n S) c w o place held path (inr h) = h.disproved
overlap-refused shown task.Certify c w o place held path (inr (inl h)) = cc
overlap-refused shown task.Certify c w o place held path (inr (inr h)) = shown (members c) w o place held path h
overlap-refused shown task.Verify c w o place held path (inr h) = absurd h
overlap-refused shown (task.Clashes reading) c w o place held path (inr h) = absurd h
overlap-refused shown (task.Graph reading) c w o place held path (inr h) = absurd h
overlap-refused shown (task.Rounds reading) c w o place held path (inr (put, inl h)) = cc
overlap-refused shown (task.Rounds reading) c w o place held path (inr (put, inr (inl h))) = let e = h.0 in cc
overlap-refused shown (task.Rounds reading) c w o place held path (inr (put, inr (inr h))) = absurd h.2

pub breach-refused : BreachesShown → (t : Task) (c : BundleContents) (p k : ℕ) (path : Path) → IsRefusedFor t c (fault.Breach p k path) → IsSafeSet (members c) → ⊥
breach-refused shown t c p k path (inl h) = absurd h.0
breach-refused shown (task.Check reading) c p k path (inr (inl h)) = cc
breach-refused shown (task.Check reading) c p k path (inr (inr h)) = shown (members c) p k path h
breach-refused shown (task.RunJobs n S) c p k path (inr (inl h)) = cc
breach-refused shown (task.RunJobs n S) c p k path (inr (inr h)) = shown (members c) p k path h
breach-refused shown (task.RunByRounds n S) c p k path (inr h) = h.disproved
breach-refused shown (task.RunInOrder n S) c p k path (inr h) = h.disproved
breach-refused shown task.Certify c p k path (inr (inl h)) = cc
breach-refused shown task.Certify c p k path (inr (inr h)) = shown (members c) p k path h
breach-refused shown task.Verify c p k path (inr h) = absurd h
breach-refused shown (task.Clashes reading) c p k path (inr h) = absurd h
breach-refused shown (task.Graph reading) c p k path (inr h) = absurd h
breach-refused shown (task.Rounds reading) c p k path (inr (put, inl h)) = cc
breach-refused shown (task.Rounds reading) c p k path (inr (put, inr (inl h))) = let e = h.0 in cc
breach-refused shown (task.Rounds reading) c p k path (inr (put, inr (inr h))) = absurd h.2
