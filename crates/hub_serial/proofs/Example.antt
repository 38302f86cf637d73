-- One job on two empty replicas, as it is recorded: so there are records that are settled in order.
use Rattle.std.proofs.Common.{◌≡◌, ◌≢◌, ◌<◌, Bool, true, false, cond, ◌||◌, T, List, [], ◌∷◌, Some, refl, ap, sym, subst, arith}
use Rattle.std.specs.Prelude.{⊤, ◌==◌, ℕ, zero, suc, slice_get, IsTrue}
use Rattle.std.specs.List.{list_any}
use Rattle.std.specs.FinMap.{get-from_sorted, entries-from_sorted, is_sorted, from_sorted}
use Rattle.std.proofs.lemmas.Bool.{false≢true}
use Rattle.std.proofs.lemmas.Option.{same_Some}
use borrow.Author.Tests.{eqb-true}
use Rattle.hub_path.specs.Path.{Path, path_cmp, path_eq}
use Rattle.hub_path.specs.declared.side.Side.TheVariants.{Left, Right}
use Rattle.hub_glob.specs.Glob.{matches}
use Rattle.hub_profile.specs.Parts.{Parts}
use Rattle.hub_profile.specs.examples.Profiles.{hub, s1}
use Rattle.hub_reach.specs.Reach.{reach, has_root}
use Rattle.hub_reconcile.specs.Sight.{sight}
use Rattle.hub_reconcile.specs.Items.{items, plan}
use Rattle.hub_reconcile.specs.laws.Views.{same_paths}
use Rattle.hub_tree.specs.Tree.{Archive, Replica}
use Rattle.hub_tree.specs.declared.contents.Mark.{Mark}
use Rattle.hub_tree.specs.declared.contents.Mark.TheVariants as mark
use Rattle.hub_job.specs.declared.op.Op.TheVariants.{Look}
use Rattle.hub_job.specs.declared.op.Next.TheVariants.{Ask, Finished}
use Rattle.hub_job.specs.declared.log.Entry.{Entry}
use Rattle.hub_job.specs.declared.log.Logged.{Logged}
use Rattle.hub_job.specs.History.{IsLegal, entries_of, entries_at}
use Rattle.hub_job.specs.Job.{next}
use Rattle.hub_job.specs.Machine.{answer, after, sees}
use Rattle.hub_job.specs.Run.{Runs}
use Rattle.hub_serial.specs.Starter.{all_wait}
use Rattle.hub_serial.specs.Starter.JobEvent.{Start, End}
use Rattle.hub_serial.specs.Starter.JobStatus.{Running, Ended, Waiting}
use Rattle.hub_serial.specs.RunRecord.{IsSettledInOrder, RunRecord}
use Rattle.hub_serial.specs.Started.{AreStarterEvents}
use Rattle.hub_serial.specs.World.{RootPair}
use Rattle.hub_serial.specs.examples.Starts.{P, a, looked_by, nothing}
use Rattle.hub_serial.proofs.Needed.{empty}

computed : ⊤
unfolding answer after next sight items plan reach matches
computed = tt

abbrev no_marks : List (Path × Mark)
no_marks = []

abbrev pub no : Archive
no = from_sorted {R = path_cmp} no_marks

abbrev left : Logged
left = looked_by 0 Left mark.Absent

abbrev right : Logged
right = looked_by 0 Right mark.Absent

abbrev log : List Logged
log = left ∷ right ∷ []

abbrev nobody : List Logged
nobody = []

abbrev none : List Entry
none = []

abbrev seen_by : Bool → Bool → List Entry
seen_by b c = cond b (left.step ∷ []) (cond c (right.step ∷ []) none)

abbrev pub recorded : RunRecord
recorded = record {
  started = 0 ∷ [];
  given = λ j. no;
  log = λ j. cond (j == 0) log nobody;
  done = λ j. j == 0;
  history = λ s. seen_by (path_eq hub s) (path_eq s1 s);
}

abbrev pub one : List Parts
one = P ∷ []

abbrev pub replicas : Path → Replica
replicas s = empty

abbrev pub archives : RootPair → Archive
archives k = no

seen_hub : answer empty P hub (Look a) ≡ sees mark.Absent [] false
unfolding computed
seen_hub = let h : T (is_sorted path_cmp nothing) = tt in simp (get-from_sorted, entries-from_sorted)

seen_s1 : answer empty P s1 (Look a) ≡ sees mark.Absent [] false
unfolding computed
seen_s1 = let h : T (is_sorted path_cmp nothing) = tt in simp (get-from_sorted, entries-from_sorted)

first_look : next P no [] ≡ Ask Left (Look a)
unfolding computed
first_look = refl

second_look : next P no (left ∷ []) ≡ Ask Right (Look a)
unfolding computed
second_look = refl

then_the_end : next P no log ≡ Finished
unfolding computed
then_the_end = let h : T (is_sorted path_cmp no_marks) = tt in simp (get-from_sorted, entries-from_sorted)

its_run : Runs P no 0 [] log
its_run = (first_look, tt, refl, (second_look, tt, refl, tt))

runs : (j : ℕ) (Q : Parts) → slice_get one j ≡ Some Q → Runs Q no j [] (cond (j == 0) log nobody)
runs zero Q e = subst (λ S. Runs S no 0 [] log) (same_Some P Q e) its_run
runs (suc j) Q e = cc

ends : (j : ℕ) (Q : Parts) → slice_get one j ≡ Some Q → (j == 0) ≡ true → next Q no (cond (j == 0) log nobody) ≡ Finished
ends zero Q e h = subst (λ S. next S no log ≡ Finished) (same_Some P Q e) then_the_end
ends (suc j) Q e h = cc

legal_by : (s : Path) (b c : Bool) → path_eq hub s ≡ b → path_eq s1 s ≡ c → IsLegal one s empty (seen_by b c)
unfolding computed
legal_by s true c e f = subst (λ r. IsLegal one r empty (left.step ∷ [])) (same_paths hub s e) ((refl, sym seen_hub), tt)
legal_by s false true e f = subst (λ r. IsLegal one r empty (right.step ∷ [])) (same_paths s1 s f) ((refl, sym seen_s1), tt)
legal_by s false false e f = tt

known_by : (b c : Bool) (n : ℕ) (x : Entry) → slice_get (seen_by b c) n ≡ Some x → list_any (λ j. j == x.job) (0 ∷ []) ≡ true
known_by true c zero x e = ap (λ (y : Entry). list_any (λ j. j == y.job) (0 ∷ [])) (sym (same_Some left.step x e))
known_by true c (suc n) x e = cc
known_by false true zero x e = ap (λ (y : Entry). list_any (λ j. j == y.job) (0 ∷ [])) (sym (same_Some right.step x e))
known_by false true (suc n) x e = cc
known_by false false n x e = cc

agree_by : (s : Path) (b c : Bool) → path_eq hub s ≡ b → path_eq s1 s ≡ c → (b || (c || false)) ≡ true → entries_of 0 (seen_by b c) ≡ entries_at P s log
agree_by s true c e f h = subst (λ r. entries_of 0 (left.step ∷ []) ≡ entries_at P r log) (same_paths hub s e) refl
agree_by s false true e f h = subst (λ r. entries_of 0 (right.step ∷ []) ≡ entries_at P r log) (same_paths s1 s f) refl
agree_by s false false e f h = absurd (false≢true h)

agree : (j : ℕ) (Q : Parts) (s : Path) → slice_get one j ≡ Some Q → IsTrue (has_root Q s) → entries_of j (seen_by (path_eq hub s) (path_eq s1 s)) ≡ entries_at Q s (cond (j == 0) log nobody)
agree zero Q s e h =
    subst (λ S. IsTrue (has_root S s) → entries_of 0 (seen_by (path_eq hub s) (path_eq s1 s)) ≡ entries_at S s log) (same_Some P Q e)
    (λ g. agree_by s (path_eq hub s) (path_eq s1 s) refl refl g) h
agree (suc j) Q s e h = cc

one_entry : (b c : Bool) (n : ℕ) (x : Entry) → slice_get (seen_by b c) (suc n) ≡ Some x → ⊥
one_entry true c n x e = cc
one_entry false true n x e = cc
one_entry false false n x e = cc

once : (m n j : ℕ) → slice_get (0 ∷ []) m ≡ Some j → slice_get (0 ∷ []) n ≡ Some j → m ≡ n
once zero zero j e f = refl
once zero (suc n) j e f = cc
once (suc m) n j e f = cc

no_second : (b c : Bool) (m n : ℕ) (x : Entry) → m < n → slice_get (seen_by b c) n ≡ Some x → ⊥
no_second b c m zero x l e = omega (arith, l)
no_second b c m (suc n) x l e = one_entry b c n x e

jobs_by : (j : ℕ) (b : Bool) → (0 == j) ≡ b → (b || false) ≡ true → (Q : Parts) × (slice_get one j ≡ Some Q)
jobs_by j true e h = (P, ap (slice_get one) (sym (eqb-true 0 j e)))
jobs_by j false e h = absurd (false≢true h)

pub is_settled : IsSettledInOrder one replicas recorded
is_settled = record {
  jobs = λ j h. jobs_by j (0 == j) refl h;
  once = once;
  runs = runs;
  finished = ends;
  legal = λ s. legal_by s (path_eq hub s) (path_eq s1 s) refl refl;
  known = λ s n x e. known_by (path_eq hub s) (path_eq s1 s) n x e;
  agree = agree;
  ordered = λ s m n x y l e f off clash. absurd (no_second (path_eq hub s) (path_eq s1 s) m n y l f);
}

over_by : (b : Bool) → cond b Ended (cond b Running Waiting) ≢ Running
over_by true e = cc
over_by false e = cc

pub is_started : AreStarterEvents one recorded archives (Start 0 ∷ End 0 ∷ [])
is_started = record {
  apart = (refl, λ k e clash. not_yet k e, tt);
  ends = (refl, tt);
  over = λ j. over_by (j == 0);
  given = (λ Q is. refl, tt);
  started = refl;
}
  where
    not_yet : (k : ℕ) → all_wait k ≡ Running → ⊥
    not_yet k e = cc
