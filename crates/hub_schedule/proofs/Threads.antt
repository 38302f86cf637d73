-- The entries of other jobs can be taken out of each legal history by itself; a job's log orders what is left.
use Rattle.std.proofs.Common.{◌≡◌, ◌≢◌, ◌<◌, Bool, true, false, cond, List, [], ◌∷◌, ◌++◌, length, map, Option, Some, None, refl, ap, sym, ◌∙◌, subst, append_assoc, length-set, eq-eqb}
use Rattle.std.proofs.lemmas.List.{append-nil}
use Rattle.std.specs.Prelude.{◌==◌, ℕ, zero, suc, IsTrue, slice_get, slice_index_or, filter, replicate}
use Rattle.std.proofs.lemmas.List.{get_or-set_same}
use Rattle.std.proofs.lemmas.Bool.{false≢true}
use Rattle.hub_reconcile.specs.laws.Synced.{passes-path}
use Rattle.hub_reconcile.specs.laws.Views.{same_paths}
use borrow.Author.Tests.{eqb-true}
use Rattle.hub_path.specs.Path.{Path, path_eq}
use Rattle.hub_path.specs.declared.side.Side.{Side}
use Rattle.hub_path.specs.declared.side.Side.TheVariants.{Left, Right}
use Rattle.hub_profile.specs.Facts.{are_roots}
use Rattle.hub_profile.specs.Parts.{Parts, IsProfile, at_side, is_root_at, some_passes}
use Rattle.hub_reach.specs.Reach.{has_root, write}
use Rattle.hub_reach.specs.Safe.{Overlap}
use Rattle.hub_tree.specs.Tree.{Replica, Archive, contents_at}
use Rattle.hub_job.specs.declared.op.Op.{Op}
use Rattle.hub_job.specs.declared.log.Entry.{Entry}
use Rattle.hub_job.specs.declared.log.Logged.{Logged}
use Rattle.hub_job.specs.Machine.{answer, after}
use Rattle.hub_job.specs.Job.{next}
use Rattle.hub_job.specs.Run.{Runs}
use Rattle.hub_job.specs.World.{World, Jobs, log_of, event, act, turn_of, turn, run, opening}
use Rattle.hub_job.specs.Alike.{May, Alike}
use Rattle.hub_job.specs.Same.{AsksMay, NoneClash}
use Rattle.hub_job.specs.laws.Untouched.{path-of_Some}
use Rattle.hub_job.specs.laws.Roots.{has_its_root}
use Rattle.hub_job.specs.laws.Logs.{no_log, a_log_each}
use Rattle.hub_job.specs.History.{replay, IsAnswerOf, IsLegal, entries_of, entries_at}
use Rattle.hub_schedule.specs.Settled.{AreProfiles, IsSettled, IsAsAlone}

-- What the laws of hub_job say, as lemmas take it.
abbrev pub AnswersAlike : Type 0
AnswersAlike = (P : Parts) (r : Path) (m k : Replica) (op : Op) → Alike P r m k → May P r op → answer m P r op ≡ answer k P r op

abbrev pub OwnAlike : Type 0
OwnAlike = (P : Parts) (r : Path) (m k : Replica) (op : Op) → Alike P r m k → May P r op → Alike P r (after m op) (after k op)

abbrev pub OthersAlike : Type 0
OthersAlike = (P Q : Parts) (r : Path) (m : Replica) (op : Op) → ¬ (Overlap (write P r) Q) → ¬ (Overlap (write Q r) P) → May P r op → Alike Q r (after m op) m

-- The entries of a history are what their jobs may do; those of one job.
abbrev pub MayAll : List Parts → Path → List Entry → Type 0
MayAll Ps r [] = Unit {0}
MayAll Ps r (e ∷ es) = ((Q : Parts) → slice_get Ps e.job ≡ Some Q → IsTrue (has_root Q r) → May Q r e.op) × MayAll Ps r es

abbrev MayEach : Parts → Path → List Entry → Type 0
MayEach Q r [] = Unit {0}
MayEach Q r (e ∷ es) = May Q r e.op × MayEach Q r es

-- The entries of one job on a replica that nobody else changes.
abbrev pub Answers : Parts → Path → Replica → List Entry → Type 0
Answers P r m [] = Unit {0}
Answers P r m (e ∷ es) = (e.answer ≡ answer m P r e.op) × Answers P r (after m e.op) es

-- what a log's entries may
each_by : (Q : Parts) (r : Path) (e : Logged) (es : List Logged) (b : Bool) → (b ≡ true → May Q r e.step.op) → MayEach Q r (map (λ e. e.step) es) → MayEach Q r (map (λ e. e.step) (cond b (e ∷ es) es))
each_by Q r e es true here more = (here refl, more)
each_by Q r e es false here more = more

runs_may : AsksMay → (Q : Parts) (O : Archive) (i : ℕ) (r : Path) (front es : List Logged) → Runs Q O i front es → MayEach Q r (entries_at Q r es)
runs_may asks Q O i r front [] runs = tt
runs_may asks Q O i r front (e ∷ es) runs =
    each_by Q r e (filter (λ e. is_root_at Q r e.side) es) (is_root_at Q r e.side)
    (λ h. asks Q O front e.side e.step.op r runs.0 (passes-path r (at_side Q.roots e.side) h))
    (runs_may asks Q O i r (front ++ e ∷ []) es runs.3)

-- and so a history's
first_by : (Q : Parts) (r : Path) (e : Entry) (es : List Entry) (b : Bool) → b ≡ true → MayEach Q r (cond b (e ∷ es) es) → May Q r e.op
first_by Q r e es true h may = may.0
first_by Q r e es false h may = absurd (false≢true h)

rest_by : (Q : Parts) (r : Path) (e : Entry) (es : List Entry) (b : Bool) → MayEach Q r (cond b (e ∷ es) es) → MayEach Q r es
rest_by Q r e es true may = may.1
rest_by Q r e es false may = may

all_may : (Ps : List Parts) (r : Path) (h : List Entry) → ((i : ℕ) (Q : Parts) → slice_get Ps i ≡ Some Q → IsTrue (has_root Q r) → MayEach Q r (entries_of i h)) → MayAll Ps r h
all_may Ps r [] f = tt
all_may Ps r (e ∷ es) f = (
  λ Q is has. first_by Q r e (entries_of e.job es) (e.job == e.job) (eq-eqb e.job e.job refl) (f e.job Q is has),
  all_may Ps r es (λ i Q is has. rest_by Q r e (entries_of i es) (e.job == i) (f i Q is has)),
)

pub may_all : AsksMay → (J : Jobs) (replicas : Path → Replica) (histories : Path → List Entry) (logs : ℕ → List Logged) → IsSettled J replicas histories logs → (r : Path) → MayAll J.profiles r (histories r)
may_all asks J replicas histories logs settled r = all_may J.profiles r (histories r)
    (λ i Q at has. subst (MayEach Q r) (sym (settled.agree i Q r at has)) (runs_may asks Q (J.archive i) i r [] (logs i) (settled.runs i Q at)))

-- the entries of the others are taken out
pub its_profile : (r : Path) (m : Replica) (e : Entry) (o : Option Parts) → IsAnswerOf r m e o → (Q : Parts) × (o ≡ Some Q) × IsTrue (has_root Q r)
its_profile r m e None is = absurd is
its_profile r m e (Some Q) is = (Q, refl, is.0)

abbrev pub Projects : ℕ → Parts → Path → Replica → Replica → List Entry → List Entry → Type 0
Projects j P r m k h own = Answers P r k own × Alike P r (replay m h) (replay k own)

project_by : AnswersAlike → OwnAlike → OthersAlike → (Ps : List Parts) (r : Path) (j : ℕ) (P : Parts) (e : Entry) (es : List Entry) (m k : Replica) (b : Bool) → (e.job == j) ≡ b
    → NoneClash Ps → slice_get Ps j ≡ Some P → IsTrue (has_root P r) → IsAnswerOf r m e (slice_get Ps e.job) → ((Q : Parts) → slice_get Ps e.job ≡ Some Q → IsTrue (has_root Q r) → May Q r e.op)
    → ((k : Replica) → Alike P r (after m e.op) k → Projects j P r (after m e.op) k es (entries_of j es)) → Alike P r m k
    → Projects j P r m k (e ∷ es) (cond b (e ∷ entries_of j es) (entries_of j es))
project_by answers own others Ps r j P e es m k true eq apart is has legal may more a =
    let mine : slice_get Ps e.job ≡ Some P = ap (slice_get Ps) (eqb-true e.job j eq) ∙ is in
    let here : IsAnswerOf r m e (Some P) = subst (IsAnswerOf r m e) mine legal in
    let rest = more (after k e.op) (own P r m k e.op a (may P mine has)) in
    ((here.1 ∙ answers P r m k e.op a (may P mine has), rest.0), rest.1)
project_by answers own others Ps r j P e es m k false eq apart is has legal may more a =
    let theirs = its_profile r m e (slice_get Ps e.job) legal in
    let Q = theirs.0 in
    let off : j ≢ e.job = λ h. false≢true (sym eq ∙ eq-eqb e.job j (sym h)) in
    let moved = others Q P r m e.op (apart e.job j Q P r (λ h. off (sym h)) theirs.1 is theirs.2 has) (apart j e.job P Q r off is theirs.1 has theirs.2) (may Q theirs.1 theirs.2) in
    more k (λ p d. moved p d ∙ a p d)

pub project : AnswersAlike → OwnAlike → OthersAlike → (Ps : List Parts) (r : Path) (j : ℕ) (P : Parts) (h : List Entry) (m k : Replica)
    → NoneClash Ps → slice_get Ps j ≡ Some P → IsTrue (has_root P r) → IsLegal Ps r m h → MayAll Ps r h → Alike P r m k → Projects j P r m k h (entries_of j h)
project answers own others Ps r j P [] m k apart is has legal may a = (tt, a)
project answers own others Ps r j P (e ∷ es) m k apart is has legal may a =
    project_by answers own others Ps r j P e es m k (e.job == j) refl apart is has legal.0 may.0
    (λ k a. project answers own others Ps r j P es (after m e.op) k apart is has legal.1 may.1 a) a

-- the root of a side
two_roots : (rs : List Path) (side : Side) → IsTrue (are_roots rs) → (r : Path) × (at_side rs side ≡ Some r)
two_roots [] side h = absurd (false≢true h)
two_roots (a ∷ []) side h = absurd (false≢true h)
two_roots (a ∷ b ∷ rs) Left h = (a, refl)
two_roots (a ∷ b ∷ rs) Right h = (b, refl)

one_way : (a b : Path) (x y : Bool) → path_eq a b ≡ x → path_eq b a ≡ y → x ≡ y
one_way a b true true e f = refl
one_way a b false false e f = refl
one_way a b true false e f = absurd (false≢true (sym f ∙ path-of_Some b a (ap Some (sym (same_paths a b e)))))
one_way a b false true e f = absurd (false≢true (sym e ∙ path-of_Some a b (ap Some (sym (same_paths b a f)))))

pub root_is : (P : Parts) (r s : Path) (side : Side) → at_side P.roots side ≡ Some r → is_root_at P s side ≡ path_eq r s
root_is P r s side e = ap (some_passes (path_eq s)) e ∙ one_way s r (path_eq s r) (path_eq r s) refl refl

entries_step : (P : Parts) (r s : Path) (e : Logged) (es : List Logged) → at_side P.roots e.side ≡ Some r
    → entries_at P s (e ∷ es) ≡ map (λ e. e.step) (cond (path_eq r s) (e ∷ filter (λ e. is_root_at P s e.side) es) (filter (λ e. is_root_at P s e.side) es))
entries_step P r s e es at = ap (λ b. map (λ e. e.step) (cond b (e ∷ filter (λ e. is_root_at P s e.side) es) (filter (λ e. is_root_at P s e.side) es))) (root_is P r s e.side at)

-- the job alone goes on as its log does
answers_step : (P : Parts) (r s : Path) (e : Logged) (es : List Logged) (v : Path → Replica) (b : Bool) → path_eq r s ≡ b
    → Answers P s (v s) (map (λ e. e.step) (cond b (e ∷ es) es)) → Answers P s (cond b (after (v r) e.step.op) (v s)) (map (λ e. e.step) es)
answers_step P r s e es v true eq a = subst (λ t. Answers P s (after (v t) e.step.op) (map (λ e. e.step) es)) (sym (same_paths r s eq)) a.1
answers_step P r s e es v false eq a = a

replay_step : (r s : Path) (e : Logged) (es : List Logged) (v : Path → Replica) (b : Bool) → path_eq r s ≡ b
    → replay (cond b (after (v r) e.step.op) (v s)) (map (λ e. e.step) es) ≡ replay (v s) (map (λ e. e.step) (cond b (e ∷ es) es))
replay_step r s e es v true eq = ap (λ t. replay (after (v t) e.step.op) (map (λ e. e.step) es)) (same_paths r s eq)
replay_step r s e es v false eq = refl

answer_here : (P : Parts) (r : Path) (e : Logged) (es : List Logged) (m : Replica) (b : Bool) → b ≡ true → Answers P r m (map (λ e. e.step) (cond b (e ∷ es) es)) → e.step.answer ≡ answer m P r e.step.op
answer_here P r e es m true h a = a.0
answer_here P r e es m false h a = absurd (false≢true h)

abbrev pub GoesOn : Jobs → Parts → ℕ → List Logged → List Logged → (Path → Replica) → World → Type 0
GoesOn J P j front es v w =
    (log_of w j ≡ front ++ es) × ((s : Path) → IsTrue (has_root P s) → w.replica s ≡ replay (v s) (entries_at P s es))

pub alone_from : (J : Jobs) (P : Parts) (j : ℕ) (front es : List Logged) (v : World) → slice_get J.profiles j ≡ Some P → IsProfile P → log_of v j ≡ front → j < length v.logs
    → Runs P (J.archive j) j front es → ((s : Path) → IsTrue (has_root P s) → Answers P s (v.replica s) (entries_at P s es))
    → GoesOn J P j front es v.replica (run J (replicate (length es) j) v)
unfolding run turn
alone_from J P j front [] v is valid log l runs a = (log ∙ sym (append-nil front), λ s has. refl)
alone_from J P j front (e ∷ es) v is valid log l runs a =
    let there = two_roots P.roots e.side valid.roots in
    let r = there.0 in
    let at = there.1 in
    let w = event P j e.side e.step.op v (Some r) in
    let turned : turn J j v ≡ w = ap (turn_of J j v) is ∙ (ap (act P j v) (ap (next P (J.archive j)) log ∙ runs.0) ∙ ap (event P j e.side e.step.op v) at) in
    let has_r = has_its_root P e.side r at in
    let answered = answer_here P r e (filter (λ e. is_root_at P r e.side) es) (v.replica r) (path_eq r r) (path-of_Some r r refl) (subst (Answers P r (v.replica r)) (entries_step P r r e es at) (a r has_r)) in
    let added : log_of w j ≡ front ++ e ∷ [] =
    get_or-set_same v.logs j _ [] l ∙ λ i. log i ++ record { side = e.side; step = record { job = sym runs.2 i; op = e.step.op; answer = sym answered i } } ∷ [] in
    let more = alone_from J P j (front ++ e ∷ []) es w is valid added (subst (λ n. j < n) (sym (length-set v.logs j _)) l) runs.3
    (λ s has. answers_step P r s e (filter (λ e. is_root_at P s e.side) es) v.replica (path_eq r s) refl (subst (Answers P s (v.replica s)) (entries_step P r s e es at) (a s has))) in
    let all : GoesOn J P j front (e ∷ es) v.replica (run J (replicate (length es) j) w) = (
      more.0 ∙ append_assoc front (e ∷ []) es,
      λ s has. more.1 s has ∙ (replay_step r s e (filter (λ e. is_root_at P s e.side) es) v.replica (path_eq r s) refl ∙ ap (replay (v.replica s)) (sym (entries_step P r s e es at))),
    ) in
    subst (λ x. GoesOn J P j front (e ∷ es) v.replica (run J (replicate (length es) j) x)) (sym turned) all

pub no_log_yet : (Ps : List Parts) (j : ℕ) (P : Parts) → slice_get Ps j ≡ Some P → slice_index_or (map (λ (Q : Parts). no_log) Ps) j [] ≡ no_log
no_log_yet [] j P e = refl
no_log_yet (Q ∷ Ps) zero P e = refl
no_log_yet (Q ∷ Ps) (suc j) P e = no_log_yet Ps j P e

pub as_alone : AsksMay → AnswersAlike → OwnAlike → OthersAlike → (J : Jobs) (replicas : Path → Replica) (histories : Path → List Entry) (logs : ℕ → List Logged) (j : ℕ) (P : Parts)
    → NoneClash J.profiles → AreProfiles J.profiles → slice_get J.profiles j ≡ Some P → IsSettled J replicas histories logs → IsAsAlone J replicas histories logs j P
as_alone asks answers own others J replicas histories logs j P apart valid is settled =
    let mine : (r : Path) → IsTrue (has_root P r) → Projects j P r (replicas r) (replicas r) (histories r) (entries_at P r (logs j)) = λ r has.
    subst (Projects j P r (replicas r) (replicas r) (histories r)) (settled.agree j P r is has)
    (project answers own others J.profiles r j P (histories r) (replicas r) (replicas r) apart is has (settled.legal j P r is has) (may_all asks J replicas histories logs settled r) (λ p d. refl)) in
    let goes = alone_from J P j [] (logs j) (opening J replicas) is (valid j P is) (no_log_yet J.profiles j P is) (a_log_each J.profiles j P is) (settled.runs j P is) (λ s has. (mine s has).0) in
    record {
      log = sym goes.0;
      alike = λ r has p d. (mine r has).1 p d ∙ ap (λ m. contents_at m p) (sym (goes.1 r has));
    }
