-- What no job of a root writes stays as it was.
use Rattle.std.proofs.Common.{◌≡◌, List, [], ◌∷◌, Some, refl, sym, ◌∙◌, subst}
use Rattle.std.specs.Prelude.{ℕ, slice_get, IsTrue}
use Rattle.std.proofs.lemmas.Bool.{false_from_ne_true}
use Rattle.hub_reconcile.specs.laws.Views.{same_paths, reach-names}
use Rattle.hub_path.specs.Path.{Path, path_eq}
use Rattle.hub_profile.specs.Parts.{Parts}
use Rattle.hub_reach.specs.Reach.{has_root, write}
use Rattle.hub_tree.specs.Tree.{Replica, contents_at, set_fault}
use Rattle.hub_job.specs.declared.log.Entry.{Entry}
use Rattle.hub_job.specs.declared.log.Logged.{Logged}
use Rattle.hub_job.specs.declared.op.Op.{Op}
use Rattle.hub_job.specs.declared.op.Op.TheVariants.{Look, Fetch, Set}
use Rattle.hub_job.specs.Machine.{after}
use Rattle.hub_job.specs.Alike.{May}
use Rattle.hub_job.specs.Same.{AsksMay}
use Rattle.hub_job.specs.World.{Jobs}
use Rattle.hub_job.specs.laws.Untouched.{SetsOne, elsewhere, write-reaches}
use Rattle.hub_job.specs.History.{replay, IsLegal}
use Rattle.hub_schedule.specs.Settled.{IsSettled}
use Rattle.hub_schedule.specs.Owned.{NobodyWrites}
use Rattle.hub_schedule.proofs.Threads.{MayAll, its_profile, may_all}

one_step : SetsOne → (Q : Parts) (r : Path) (m : Replica) (op : Op) (p : Path) → May Q r op → ¬ (IsTrue (write Q r p)) → contents_at (after m op) p ≡ contents_at m p
unfolding after
one_step sets Q r m (Look d) p may never = refl
one_step sets Q r m (Fetch d) p may never = refl
one_step sets Q r m (Set q c) p may never =
    elsewhere sets m q p c (set_fault m q c) (reach-names Q q (write-reaches Q r q may))
    (false_from_ne_true (path_eq p q) (λ e. never (subst (λ x. IsTrue (write Q r x)) (sym (same_paths p q e)) may)))

stays : SetsOne → (Ps : List Parts) (r : Path) (m : Replica) (h : List Entry) (p : Path) → IsLegal Ps r m h → MayAll Ps r h → NobodyWrites Ps r p → contents_at (replay m h) p ≡ contents_at m p
stays sets Ps r m [] p legal may never = refl
stays sets Ps r m (e ∷ h) p legal may never =
    let theirs = its_profile r m e (slice_get Ps e.job) legal.0 in
    stays sets Ps r (after m e.op) h p legal.1 may.1 never
    ∙ one_step sets theirs.0 r m e.op p (may.0 theirs.0 theirs.1 theirs.2) (never e.job theirs.0 theirs.1 theirs.2)

pub all_stays : AsksMay → SetsOne → (J : Jobs) (replicas : Path → Replica) (histories : Path → List Entry) (logs : ℕ → List Logged) (i : ℕ) (P : Parts) (r p : Path)
    → IsSettled J replicas histories logs → slice_get J.profiles i ≡ Some P → IsTrue (has_root P r) → NobodyWrites J.profiles r p → contents_at (replay (replicas r) (histories r)) p ≡ contents_at (replicas r) p
all_stays asks sets J replicas histories logs i P r p settled is has never =
    stays sets J.profiles r (replicas r) (histories r) p (settled.legal i P r is has) (may_all asks J replicas histories logs settled r) never
