-- Each Set in a history that fits the logs is allowed by the contents that it finds, and no rule forbids it.
use Rattle.std.proofs.Common.{◌≡◌, inl, Bool, true, false, cond, List, [], ◌∷◌, ◌++◌, length, map, Some, refl, ap, sym, ◌∙◌, subst, append_assoc, append-nil, eq-eqb}
use Rattle.std.specs.Prelude.{◌==◌, ℕ, IsTrue, slice_get, filter, replicate}
use Rattle.std.proofs.lemmas.Bool.{false_from_ne_true}
use Rattle.std.proofs.lemmas.List.{map-append}
use Rattle.std.proofs.lemmas.List.Elements.{filter-append}
use Rattle.hub_reconcile.specs.laws.Synced.{passes-path}
use Rattle.hub_path.specs.Path.{Path}
use Rattle.hub_path.specs.declared.side.Side.TheVariants.{Left, Right}
use Rattle.hub_profile.specs.Parts.{Parts, at_side, is_root_at}
use Rattle.hub_reach.specs.Reach.{may_at, has_root, write}
use Rattle.hub_reach.specs.Safe.{Rule, IsSafe}
use Rattle.hub_tree.specs.Tree.{Replica, Archive, IsTree, contents_at, mark_at, mark_of}
use Rattle.hub_tree.specs.declared.contents.Contents.{Contents}
use Rattle.hub_reconcile.specs.Items.{verb_of}
use Rattle.hub_reconcile.specs.Sync.{root_or_top}
use Rattle.hub_job.specs.declared.log.Entry.{Entry}
use Rattle.hub_job.specs.declared.log.Logged.{Logged}
use Rattle.hub_job.specs.declared.op.Op.TheVariants.{Set}
use Rattle.hub_job.specs.declared.op.Next.TheVariants.{Ask}
use Rattle.hub_job.specs.Alike.{May}
use Rattle.hub_job.specs.Job.{next}
use Rattle.hub_job.specs.Machine.{after}
use Rattle.hub_job.specs.Run.{Runs, root_at, world_for, pair_run}
use Rattle.hub_job.specs.Same.{AsksMay, NoneClash}
use Rattle.hub_job.specs.World.{Jobs, log_of, run, opening}
use Rattle.hub_job.specs.History.{replay, IsLegal, entries_of, entries_at}
use Rattle.hub_schedule.specs.Settled.{AreProfiles, IsSettled}
use Rattle.hub_schedule.specs.Together.{SetsAreAllowed, NoRuleForbids}
use Rattle.hub_job.specs.laws.Logs.{a_log_each}
use Rattle.hub_schedule.proofs.Apart.{may_at_entry}
use Rattle.hub_job.specs.laws.Untouched.{write-reaches, passes-itself}
use Rattle.hub_job.specs.laws.LoneJobs.{by_side, run_pair, open_pair}
use Rattle.hub_schedule.proofs.Threads.{AnswersAlike, OwnAlike, OthersAlike, MayAll, Answers, Projects, project, alone_from, no_log_yet, may_all}
use Rattle.hub_schedule.proofs.Verbs.{AllowedOp, AllowedNext, alone_allowed}

head_or : Entry → List Entry → Entry
head_or x [] = x
head_or x (y ∷ ys) = y

rest_or : List Entry → List Entry
rest_or [] = []
rest_or (y ∷ ys) = ys

same_head : (x y : Entry) (xs ys : List Entry) → x ∷ xs ≡ y ∷ ys → x ≡ y
unfolding head_or
same_head x y xs ys e = ap (head_or x) e

same_rest : (x y : Entry) (xs ys : List Entry) → x ∷ xs ≡ y ∷ ys → xs ≡ ys
unfolding rest_or
same_rest x y xs ys e = ap rest_or e

-- An entry's place in the entries of a root is a place in the log.
record Place (P : Parts) (r : Path) (xs : List Entry) (e : Entry) (log : List Logged) : Type 0 where
  front : List Logged
  here : Logged
  rest : List Logged
  whole : log ≡ front ++ here ∷ rest
  is : here.step ≡ e
  at : is_root_at P r here.side ≡ true
  before : entries_at P r front ≡ xs

no_entries : (xs : List Entry) (e : Entry) (ys : List Entry) → xs ++ e ∷ ys ≡ [] → ⊥
no_entries [] e ys h = cc
no_entries (x ∷ xs) e ys h = cc

abbrev by_test : Bool → Logged → List Logged → List Entry
by_test b l log = map (λ e. e.step) (cond b (l ∷ log) log)

place_after : (P : Parts) (r : Path) (l : Logged) (log : List Logged) (e : Entry) (zs xs : List Entry) (p : Place P r zs e log) → entries_at P r (l ∷ p.front) ≡ xs → Place P r xs e (l ∷ log)
place_after P r l log e zs xs p before = record {
  front = l ∷ p.front;
  here = p.here;
  rest = p.rest;
  whole = ap (λ ls. l ∷ ls) p.whole;
  is = p.is;
  at = p.at;
  before = before;
}

place_in : (P : Parts) (r : Path) (l : Logged) (log : List Logged) (e : Entry) (ys : List Entry) (xs : List Entry) (b : Bool) → is_root_at P r l.side ≡ b
    → xs ++ e ∷ ys ≡ by_test b l (filter (λ e. is_root_at P r e.side) log) → ((zs : List Entry) → zs ++ e ∷ ys ≡ entries_at P r log → Place P r zs e log) → Place P r xs e (l ∷ log)
place_in P r l log e ys [] true t h more = record {
  front = [];
  here = l;
  rest = log;
  whole = refl;
  is = sym (same_head e l.step ys (entries_at P r log) h);
  at = t;
  before = refl;
}
place_in P r l log e ys (x ∷ xs) true t h more =
    let p = more xs (same_rest x l.step (xs ++ e ∷ ys) (entries_at P r log) h) in
    place_after P r l log e xs (x ∷ xs) p
    (ap (λ b. by_test b l (filter (λ e. is_root_at P r e.side) p.front)) t ∙ (ap (λ es. l.step ∷ es) p.before ∙ ap (λ y. y ∷ xs) (sym (same_head x l.step (xs ++ e ∷ ys) (entries_at P r log) h))))
place_in P r l log e ys xs false t h more =
    let p = more xs h in
    place_after P r l log e xs xs p (ap (λ b. by_test b l (filter (λ e. is_root_at P r e.side) p.front)) t ∙ p.before)

place_of : (P : Parts) (r : Path) (log : List Logged) (xs : List Entry) (e : Entry) (ys : List Entry) → xs ++ e ∷ ys ≡ entries_at P r log → Place P r xs e log
place_of P r [] xs e ys h = absurd (no_entries xs e ys h)
place_of P r (l ∷ log) xs e ys h = place_in P r l log e ys xs (is_root_at P r l.side) refl h (λ zs g. place_of P r log zs e ys g)

-- Fronts.
runs_front : (P : Parts) (O : Archive) (j : ℕ) (front es : List Logged) (l : Logged) (rest : List Logged) → Runs P O j front (es ++ l ∷ rest) → Runs P O j front es × (next P O (front ++ es) ≡ Ask l.side l.step.op)
runs_front P O j front [] l rest runs = (tt, ap (next P O) (append-nil front) ∙ runs.0)
runs_front P O j front (x ∷ es) l rest runs =
    let more = runs_front P O j (front ++ x ∷ []) es l rest runs.3 in
    ((runs.0, runs.1, runs.2, more.0), ap (next P O) (sym (append_assoc front (x ∷ []) es)) ∙ more.1)

answers_front : (P : Parts) (r : Path) (m : Replica) (xs ys : List Entry) → Answers P r m (xs ++ ys) → Answers P r m xs
answers_front P r m [] ys a = tt
answers_front P r m (x ∷ xs) ys a = (a.0, answers_front P r (after m x.op) xs ys a.1)

entries_at-append : (P : Parts) (r : Path) (xs ys : List Logged) → entries_at P r (xs ++ ys) ≡ entries_at P r xs ++ entries_at P r ys
entries_at-append P r xs ys =
    ap (map (λ (e : Logged). e.step)) (filter-append (λ (e : Logged). is_root_at P r e.side) xs ys)
    ∙ map-append (λ (e : Logged). e.step) (filter (λ (e : Logged). is_root_at P r e.side) xs) (filter (λ (e : Logged). is_root_at P r e.side) ys)

legal_front : (Ps : List Parts) (r : Path) (m : Replica) (xs ys : List Entry) → IsLegal Ps r m (xs ++ ys) → IsLegal Ps r m xs
legal_front Ps r m [] ys legal = tt
legal_front Ps r m (x ∷ xs) ys legal = (legal.0, legal_front Ps r (after m x.op) xs ys legal.1)

may_front : (Ps : List Parts) (r : Path) (xs ys : List Entry) → MayAll Ps r (xs ++ ys) → MayAll Ps r xs
may_front Ps r [] ys may = tt
may_front Ps r (x ∷ xs) ys may = (may.0, may_front Ps r xs ys may.1)

own_entries : (j : ℕ) (xs : List Entry) (e : Entry) (ys : List Entry) → e.job ≡ j → entries_of j (xs ++ e ∷ ys) ≡ entries_of j xs ++ e ∷ entries_of j ys
own_entries j xs e ys is =
    filter-append (λ (e : Entry). e.job == j) xs (e ∷ ys) ∙ ap (λ b. entries_of j xs ++ cond b (e ∷ entries_of j ys) (entries_of j ys)) (eq-eqb e.job j is)

module _ (asks : AsksMay) (answers : AnswersAlike) (own : OwnAlike) (others : OthersAlike) (J : Jobs) (replicas : Path → Replica) (histories : Path → List Entry) (logs : ℕ → List Logged) (apart : NoneClash J.profiles) (valid : AreProfiles J.profiles) (trees : (r : Path) → IsTree (replicas r)) (settled : IsSettled J replicas histories logs) where
  may_every : (r : Path) → MayAll J.profiles r (histories r)
  may_every r = may_all asks J replicas histories logs settled r

  projected : (j : ℕ) (P : Parts) (r : Path) → slice_get J.profiles j ≡ Some P → IsTrue (has_root P r) → Projects j P r (replicas r) (replicas r) (histories r) (entries_at P r (logs j))
  projected j P r is has =
      subst (Projects j P r (replicas r) (replicas r) (histories r)) (settled.agree j P r is has)
      (project answers own others J.profiles r j P (histories r) (replicas r) (replicas r) apart is has (settled.legal j P r is has) (may_every r) (λ p d. refl))

  -- The front of a log is the whole log after fewer turns.
  alone_front : (j : ℕ) (P : Parts) (front : List Logged) (l : Logged) (rest : List Logged) → slice_get J.profiles j ≡ Some P → logs j ≡ front ++ l ∷ rest
      → (log_of (run J (replicate (length front) j) (opening J replicas)) j ≡ front)
      × ((s : Path) → IsTrue (has_root P s) → (run J (replicate (length front) j) (opening J replicas)).replica s ≡ replay (replicas s) (entries_at P s front))
  alone_front j P front l rest is whole =
      let runs = runs_front P (J.archive j) j [] front l rest (subst (Runs P (J.archive j) j []) whole (settled.runs j P is)) in
      let answered : (s : Path) → IsTrue (has_root P s) → Answers P s (replicas s) (entries_at P s front) = λ s has.
      answers_front P s (replicas s) (entries_at P s front) (entries_at P s (l ∷ rest))
      (subst (Answers P s (replicas s)) (ap (entries_at P s) whole ∙ entries_at-append P s front (l ∷ rest)) (projected j P s is has).0) in
      let goes = alone_from J P j [] front (opening J replicas) is (valid j P is) (no_log_yet J.profiles j P is) (a_log_each J.profiles j P is) runs.0 answered in
      (goes.0, goes.1)

  next_at : (j : ℕ) (P : Parts) (front : List Logged) (l : Logged) (rest : List Logged) → slice_get J.profiles j ≡ Some P → logs j ≡ front ++ l ∷ rest → next P (J.archive j) front ≡ Ask l.side l.step.op
  next_at j P front l rest is whole = (runs_front P (J.archive j) j [] front l rest (subst (Runs P (J.archive j) j []) whole (settled.runs j P is))).1

  -- After any number of turns of a job alone, what it asks next is allowed.
  world_allowed : (j : ℕ) (P : Parts) (n : ℕ) → slice_get J.profiles j ≡ Some P
      → AllowedNext P (world_for P j (run J (replicate n j) (opening J replicas))) (next P (J.archive j) (log_of (run J (replicate n j) (opening J replicas)) j))
  world_allowed j P n is =
      subst (λ w. AllowedNext P w (next P (J.archive j) w.log))
      (sym (run_pair P (valid j P is) j J is n (opening J replicas) (a_log_each J.profiles j P is) ∙ ap (pair_run P (J.archive j) j n) (open_pair P (valid j P is) j J is replicas)))
      (alone_allowed P (valid j P is) (replicas (root_at P Left)) (replicas (root_at P Right)) (J.archive j) (trees (root_at P Left)) (trees (root_at P Right)) j n)

  abbrev IsAllowedAt : Parts → Path → Path → Contents → Replica → Type 0
  IsAllowedAt P r p c m = may_at P r p (verb_of (mark_at m p) (mark_of c)) ≡ true

  -- Of a job alone, at its root.
  allowed_alone : (j : ℕ) (P : Parts) (r p : Path) (c : Contents) (front : List Logged) (l : Logged) (rest : List Logged) → slice_get J.profiles j ≡ Some P → logs j ≡ front ++ l ∷ rest
      → l.step.op ≡ Set p c → at_side P.roots l.side ≡ Some r → IsTrue (has_root P r) → IsAllowedAt P r p c (replay (replicas r) (entries_at P r front))
  allowed_alone j P r p c front l rest is whole op at has =
      let w = run J (replicate (length front) j) (opening J replicas) in
      let alone = alone_front j P front l rest is whole in
      let ok : AllowedOp P (world_for P j w) l.side (Set p c) =
      subst (AllowedNext P (world_for P j w)) (ap (next P (J.archive j)) alone.0 ∙ (next_at j P front l rest is whole ∙ ap (Ask l.side) op)) (world_allowed j P (length front) is) in
      let root : root_at P l.side ≡ r = ap root_or_top at in
      ap (λ m. may_at P r p (verb_of (mark_at m p) (mark_of c))) (sym (alone.1 r has))
      ∙ (ap (λ s. may_at P s p (verb_of (mark_at (w.replica s) p) (mark_of c))) (sym root)
      ∙ (ap (λ x. may_at P (root_at P l.side) p (verb_of (mark_of x) (mark_of c))) (by_side P j l.side w p) ∙ ok))

  -- And among others.
  pub set_allowed : (Q : Parts) (r p : Path) (c : Contents) (front rest : List Entry) (e : Entry) → histories r ≡ front ++ e ∷ rest → slice_get J.profiles e.job ≡ Some Q → IsTrue (has_root Q r) → e.op ≡ Set p c
      → IsTrue (write Q r p) × IsAllowedAt Q r p c (replay (replicas r) front)
  set_allowed Q r p c front rest e cut is has op =
      let j = e.job in
      let legal = subst (IsLegal J.profiles r (replicas r)) cut (settled.legal j Q r is has) in
      let may = subst (MayAll J.profiles r) cut (may_every r) in
      let writes : IsTrue (write Q r p) = subst (May Q r) op (may_at_entry J.profiles r front rest e may Q is has) in
      let place = place_of Q r (logs j) (entries_of j front) e (entries_of j rest) (sym (own_entries j front e rest refl) ∙ (ap (entries_of j) (sym cut) ∙ settled.agree j Q r is has)) in
      let alike = (project answers own others J.profiles r j Q front (replicas r) (replicas r) apart is has (legal_front J.profiles r (replicas r) front (e ∷ rest) legal) (may_front J.profiles r front (e ∷ rest) may) (λ p d. refl)).1 in
      let there : contents_at (replay (replicas r) front) p ≡ contents_at (replay (replicas r) (entries_at Q r place.front)) p =
      alike p (inl (passes-itself Q p (write-reaches Q r p writes))) ∙ ap (λ es. contents_at (replay (replicas r) es) p) (sym place.before) in (
        writes,
        ap (λ x. may_at Q r p (verb_of (mark_of x) (mark_of c))) there
            ∙ allowed_alone j Q r p c place.front place.here place.rest is place.whole (ap (λ x. x.op) place.is ∙ op) (passes-path r (at_side Q.roots place.here.side) place.at) has,
      )

pub safe_apart : (Ps : List Parts) (Rs : List Rule) → IsSafe Ps Rs → NoneClash Ps
safe_apart Ps Rs safe i j P Q r off p q a b clash = safe.no_clash i j P Q p q off (inl (r, a, b, clash))

-- No rule forbids what a profile of a safe set may do.
no_rule : (Ps : List Parts) (Rs : List Rule) (i : ℕ) (Q : Parts) (r p : Path) (old new : Contents) → IsSafe Ps Rs → slice_get Ps i ≡ Some Q → IsTrue (has_root Q r) → IsTrue (write Q r p)
    → may_at Q r p (verb_of (mark_of old) (mark_of new)) ≡ true → NoRuleForbids Rs r old new p
no_rule Ps Rs i Q r p old new safe is has writes may = λ k R at root verb.
    false_from_ne_true (R.matches p) (λ h. safe.no_breach i k Q R is at
    (p, subst (λ s. IsTrue (has_root Q s)) (sym root) has, write-reaches Q r p writes, subst (λ s. IsTrue (may_at Q s p R.verb)) (sym root) (ap (may_at Q r p) verb ∙ may), h))

pub sets_allowed : AsksMay → AnswersAlike → OwnAlike → OthersAlike → (J : Jobs) (Rs : List Rule) (replicas : Path → Replica) (histories : Path → List Entry) (logs : ℕ → List Logged)
    → AreProfiles J.profiles → IsSafe J.profiles Rs → ((r : Path) → IsTree (replicas r)) → IsSettled J replicas histories logs → SetsAreAllowed J.profiles Rs replicas histories
sets_allowed asks answers own others J Rs replicas histories logs valid safe trees settled = λ Q r p c front rest e cut is has op.
    let w = set_allowed asks answers own others J replicas histories logs (safe_apart J.profiles Rs safe) valid trees settled Q r p c front rest e cut is has op in
    (w.1, no_rule J.profiles Rs e.job Q r p (contents_at (replay (replicas r) front) p) c safe is has w.0 w.1)
