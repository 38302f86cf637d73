-- What histories and logs that fit together leave, clause by clause.
use Rattle.std.proofs.Common.{◌≡◌, inl, List, [], ◌∷◌, ◌++◌, Some, ap, sym, ◌∙◌, subst}
use Rattle.std.specs.Prelude.{ℕ, slice_get, IsTrue}
use Rattle.std.proofs.lemmas.Bool.{false≢true}
use Rattle.hub_job.specs.laws.Histories.{replay-push}
use Rattle.hub_path.specs.Path.{Path}
use Rattle.hub_profile.specs.Parts.{Parts}
use Rattle.hub_reach.specs.Reach.{has_root}
use Rattle.hub_tree.specs.Tree.{Replica, contents_at}
use Rattle.hub_job.specs.declared.log.Entry.{Entry}
use Rattle.hub_job.specs.declared.log.Logged.{Logged}
use Rattle.hub_job.specs.Alike.{May}
use Rattle.hub_job.specs.Machine.{after}
use Rattle.hub_job.specs.Same.{AsksMay, NoneClash}
use Rattle.hub_job.specs.World.{Jobs}
use Rattle.hub_job.specs.History.{replay, IsAnswerOf, IsLegal}
use Rattle.hub_schedule.specs.Owned.{NobodyWrites}
use Rattle.hub_schedule.specs.Settled.{AreProfiles, IsSettled, IsAsAlone}
use Rattle.hub_schedule.specs.Together.{left_at, LogsAreAlone, OthersAreLeftAlone, OwnPathsAreAlone, ElsewhereIsAsBefore}
use Rattle.hub_job.specs.laws.Untouched.{write-reaches, passes-itself}
use Rattle.hub_schedule.proofs.Threads.{OthersAlike, MayAll, its_profile, may_all}

-- What the laws of histories say, as lemmas take it.
abbrev pub AreAlone : Type 0
AreAlone = (J : Jobs) (replicas : Path → Replica) (histories : Path → List Entry) (logs : ℕ → List Logged) (j : ℕ) (P : Parts)
    → NoneClash J.profiles → AreProfiles J.profiles → slice_get J.profiles j ≡ Some P → IsSettled J replicas histories logs
    → IsAsAlone J replicas histories logs j P

abbrev pub UnwrittenStays : Type 0
UnwrittenStays = (J : Jobs) (replicas : Path → Replica) (histories : Path → List Entry) (logs : ℕ → List Logged) (i : ℕ) (P : Parts) (r p : Path)
    → IsSettled J replicas histories logs → slice_get J.profiles i ≡ Some P → IsTrue (has_root P r) → NobodyWrites J.profiles r p
    → contents_at (replay (replicas r) (histories r)) p ≡ contents_at (replicas r) p

pub logs_alone : AreAlone → (J : Jobs) (replicas : Path → Replica) (histories : Path → List Entry) (logs : ℕ → List Logged)
    → NoneClash J.profiles → AreProfiles J.profiles → IsSettled J replicas histories logs → LogsAreAlone J replicas logs
logs_alone alone J replicas histories logs apart valid settled = λ j P is. (alone J replicas histories logs j P apart valid is settled).log

pub own_alone : AreAlone → (J : Jobs) (replicas : Path → Replica) (histories : Path → List Entry) (logs : ℕ → List Logged)
    → NoneClash J.profiles → AreProfiles J.profiles → IsSettled J replicas histories logs → OwnPathsAreAlone J replicas (left_at replicas histories) logs
own_alone alone J replicas histories logs apart valid settled = λ j P r q is has h.
    (alone J replicas histories logs j P apart valid is settled).alike r has q (inl (passes-itself P q h))

-- An entry of a legal history, at its point.
pub legal_at : (Ps : List Parts) (r : Path) (m : Replica) (front rest : List Entry) (e : Entry) → IsLegal Ps r m (front ++ e ∷ rest) → IsAnswerOf r (replay m front) e (slice_get Ps e.job)
legal_at Ps r m [] rest e legal = legal.0
legal_at Ps r m (x ∷ front) rest e legal = legal_at Ps r (after m x.op) front rest e legal.1

pub may_at_entry : (Ps : List Parts) (r : Path) (front rest : List Entry) (e : Entry) → MayAll Ps r (front ++ e ∷ rest) → (Q : Parts) → slice_get Ps e.job ≡ Some Q → IsTrue (has_root Q r) → May Q r e.op
may_at_entry Ps r [] rest e may = may.0
may_at_entry Ps r (x ∷ front) rest e may = may_at_entry Ps r front rest e may.1

pub others_alone : AsksMay → OthersAlike → (J : Jobs) (replicas : Path → Replica) (histories : Path → List Entry) (logs : ℕ → List Logged)
    → NoneClash J.profiles → IsSettled J replicas histories logs → OthersAreLeftAlone J replicas histories
others_alone asks others J replicas histories logs apart settled = λ j P r q front rest e is has cut off passes.
    let Ps = J.profiles in
    let legal = legal_at Ps r (replicas r) front rest e (subst (IsLegal Ps r (replicas r)) cut (settled.legal j P r is has)) in
    let theirs = its_profile r (replay (replicas r) front) e (slice_get Ps e.job) legal in
    let Q = theirs.0 in
    let may = may_at_entry Ps r front rest e (subst (MayAll Ps r) cut (may_all asks J replicas histories logs settled r)) Q theirs.1 theirs.2 in
    ap (λ m. contents_at m q) (replay-push (replicas r) front e)
    ∙ others Q P r (replay (replicas r) front) e.op (apart e.job j Q P r off theirs.1 is theirs.2 has) (apart j e.job P Q r (λ h. off (sym h)) is theirs.1 has theirs.2) may q (inl passes)

pub elsewhere_before : UnwrittenStays → (J : Jobs) (replicas : Path → Replica) (histories : Path → List Entry) (logs : ℕ → List Logged) (j : ℕ) (P : Parts) (r : Path)
    → IsSettled J replicas histories logs → slice_get J.profiles j ≡ Some P → IsTrue (has_root P r) → ElsewhereIsAsBefore J.profiles r (replicas r) (left_at replicas histories r)
elsewhere_before stays J replicas histories logs j P r settled is has = λ q never.
    stays J replicas histories logs j P r q settled is has (λ i Q its owns writes. false≢true (sym (never i Q its owns) ∙ write-reaches Q r q writes))
