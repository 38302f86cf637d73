-- What an entry of a settled history may, and whom it leaves alone.
use Rattle.std.proofs.Common.{◌≡◌, List, [], ◌∷◌, Some, ap, sym, ◌∙◌, subst}
use Rattle.std.specs.Prelude.{ℕ, zero, suc, slice_get, IsTrue}
use Rattle.std.proofs.lemmas.Option.{same_Some}
use Rattle.hub_path.specs.Path.{Path}
use Rattle.hub_profile.specs.Parts.{Parts}
use Rattle.hub_reach.specs.Reach.{has_root, write}
use Rattle.hub_tree.specs.Tree.{Replica}
use Rattle.hub_tree.specs.declared.contents.Contents.{Contents}
use Rattle.hub_job.specs.declared.log.Entry.{Entry}
use Rattle.hub_job.specs.declared.log.Logged.{Logged}
use Rattle.hub_job.specs.declared.op.Op.TheVariants.{Set}
use Rattle.hub_job.specs.Machine.{after}
use Rattle.hub_job.specs.Alike.{May}
use Rattle.hub_job.specs.Same.{AsksMay, NoneClash}
use Rattle.hub_job.specs.World.{Jobs}
use Rattle.hub_job.specs.laws.Untouched.{untouched}
use Rattle.hub_job.specs.History.{IsLegal}
use Rattle.hub_schedule.specs.Settled.{IsSettled}
use Rattle.hub_schedule.specs.Owned.{IsItsOwn}
use Rattle.hub_schedule.proofs.Threads.{MayAll, its_profile, may_all}

its_own : (Ps : List Parts) (r : Path) (m : Replica) (h : List Entry) (k : ℕ) (e : Entry) (p : Path) (c : Contents) → NoneClash Ps → IsLegal Ps r m h → MayAll Ps r h → slice_get h k ≡ Some e → e.op ≡ Set p c → IsItsOwn Ps r e p
its_own Ps r m [] k e p c apart legal may at op = cc at
its_own Ps r m (x ∷ h) zero e p c apart legal may at op =
    let same : x ≡ e = same_Some x e at in
    let theirs = its_profile r m x (slice_get Ps x.job) legal.0 in
    let Q = theirs.0 in
    let is : slice_get Ps e.job ≡ Some Q = ap (λ y. slice_get Ps y.job) (sym same) ∙ theirs.1 in
    let writes : IsTrue (write Q r p) = subst (May Q r) (ap (λ y. y.op) same ∙ op) (may.0 Q theirs.1 theirs.2) in
    (Q, is, writes, λ j P off at has depends. untouched Q P r p (apart e.job j Q P r (λ s. off (sym s)) is at theirs.2 has) (apart j e.job P Q r off at is has theirs.2) writes depends)
its_own Ps r m (x ∷ h) (suc k) e p c apart legal may at op = its_own Ps r (after m x.op) h k e p c apart legal.1 may.1 at op

pub sets_apart : AsksMay → (J : Jobs) (replicas : Path → Replica) (histories : Path → List Entry) (logs : ℕ → List Logged) (i : ℕ) (P : Parts) (r : Path) (k : ℕ) (e : Entry) (p : Path) (c : Contents)
    → NoneClash J.profiles → IsSettled J replicas histories logs → slice_get J.profiles i ≡ Some P → IsTrue (has_root P r) → slice_get (histories r) k ≡ Some e → e.op ≡ Set p c → IsItsOwn J.profiles r e p
sets_apart asks J replicas histories logs i P r k e p c apart settled is has at op =
    its_own J.profiles r (replicas r) (histories r) k e p c apart (settled.legal i P r is has) (may_all asks J replicas histories logs settled r) at op
