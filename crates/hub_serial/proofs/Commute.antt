-- Turns of jobs whose profiles are apart can be exchanged.
use Rattle.std.proofs.Common.{◌≡◌, ◌≢◌, Bool, true, false, cond, List, [], ◌∷◌, ◌++◌, Option, Some, None, refl, ap, sym, ◌∙◌, subst}
use Rattle.std.specs.Prelude.{◌==◌, ℕ, IsTrue}
use Rattle.std.specs.FinMap as fin
use Rattle.std.specs.Ordering.{eq_by_cmp}
use Rattle.std.proofs.lemmas.Bool.{false≢true, and_parts, false_from_ne_true}
use borrow.Author.Tests.{eqb-true}
use Rattle.hub_path.specs.Path.{Path, path_cmp, path_eq}
use Rattle.hub_path.specs.laws.General.{is_over-reflexive}
use Rattle.hub_path.specs.declared.side.Side.{Side}
use Rattle.hub_profile.specs.Parts.{Parts, at_side}
use Rattle.hub_reach.specs.Reach.{reach, write, has_root}
use Rattle.hub_reach.specs.Safe.{Overlap}
use Rattle.hub_tree.specs.Tree.{Replica, Archive, set_fault, with_contents}
use Rattle.hub_tree.specs.declared.contents.Contents.{Contents}
use Rattle.hub_tree.specs.declared.contents.Contents.TheVariants as contents
use Rattle.hub_tree.specs.declared.fault.SetFault.{SetFault}
use Rattle.hub_tree.specs.laws.Order.{path_total, path_antisymmetric, same_path}
use Rattle.hub_reconcile.specs.Sync.{root_or_top}
use Rattle.hub_reconcile.specs.laws.Views.{same_paths}
use Rattle.hub_job.specs.declared.log.Logged.{Logged}
use Rattle.hub_job.specs.declared.op.Op.{Op}
use Rattle.hub_job.specs.declared.op.Op.TheVariants.{Look, Fetch, Set}
use Rattle.hub_job.specs.declared.op.Next.{Next}
use Rattle.hub_job.specs.declared.op.Next.TheVariants.{Ask, Finished, Stopped}
use Rattle.hub_job.specs.Machine.{answer, after, done_unless, changed_unless}
use Rattle.hub_reconcile.specs.Items.{items}
use Rattle.hub_job.specs.Job.{next, sights, view_in}
use Rattle.hub_job.specs.Ends.{archive_after}
use Rattle.hub_job.specs.Alike.{May, Alike, OfAlike}
use Rattle.hub_job.specs.Same.{AsksMay, OfApartOps}
use Rattle.hub_job.specs.Run.{root_at, logged}
use Rattle.hub_job.specs.laws.Roots.{has_its_root}
use Rattle.hub_job.specs.laws.Untouched.{write-reaches}
use Rattle.hub_serial.specs.World.{RootPair, World, pair_of, pair_eq, archive_for, with_entry, event, ending, act, next_for}
use Rattle.hub_serial.proofs.OldMarks.{SameReached, next_alike, items_alike, kept_by_other, ends_commute}

-- At a root of both, neither writes a path over one that the other reaches; and if they have one archive, they reach no path in
-- common.
pub record AreApart (P Q : Parts) : Type 0 where
  pub writes : (r : Path) → IsTrue (has_root P r) → IsTrue (has_root Q r) → (¬ (Overlap (write P r) Q)) × (¬ (Overlap (write Q r) P))
  pub marks : pair_of P ≡ pair_of Q → (p : Path) → IsTrue (reach P p) → ¬ (IsTrue (reach Q p))

abbrev pub AnswersAlike : Type 0
AnswersAlike = OfAlike (λ P r m k op. answer m P r op ≡ answer k P r op)

abbrev pub OthersAlike : Type 0
OthersAlike = OfApartOps (λ Q r m op. Alike Q r (after m op) m)

-- Sets of different paths.
abbrev kept_contents : Contents → Option Contents
kept_contents (contents.File bytes) = Some (contents.File bytes)
kept_contents contents.Directory = Some contents.Directory
kept_contents contents.Absent = None

get-with_contents : (m : Replica) (p q : Path) (c : Contents) → fin.get (with_contents m p c) q ≡ cond (eq_by_cmp path_cmp q p) (kept_contents c) (fin.get m q)
get-with_contents m p q (contents.File bytes) = fin.get-insert path_total m p (contents.File bytes) q
get-with_contents m p q contents.Directory = fin.get-insert path_total m p contents.Directory q
get-with_contents m p q contents.Absent = fin.get-remove path_total m p q

turned_conds : {X : Type 0} (b c : Bool) (x y z : X) → (b ≡ true → c ≡ true → ⊥) → cond b x (cond c y z) ≡ cond c y (cond b x z)
turned_conds true true x y z h = absurd (h refl refl)
turned_conds true false x y z h = refl
turned_conds false true x y z h = refl
turned_conds false false x y z h = refl

pub contents_commute : (m : Replica) (p q : Path) (c d : Contents) → (p ≡ q → ⊥) → with_contents (with_contents m q d) p c ≡ with_contents (with_contents m p c) q d
contents_commute m p q c d off =
    fin.same_map path_total path_antisymmetric (with_contents (with_contents m q d) p c) (with_contents (with_contents m p c) q d)
    (λ x. get-with_contents (with_contents m q d) p x c ∙ (ap (cond (eq_by_cmp path_cmp x p) (kept_contents c)) (get-with_contents m q x d)
    ∙ (turned_conds (eq_by_cmp path_cmp x p) (eq_by_cmp path_cmp x q) (kept_contents c) (kept_contents d) (fin.get m x) (λ a b. off (sym (same_path x p a) ∙ same_path x q b))
    ∙ sym (get-with_contents (with_contents m p c) q x d ∙ ap (cond (eq_by_cmp path_cmp x q) (kept_contents d)) (get-with_contents m p x c)))))

-- A Set goes through or not by its answer.
pub by_answer : (o u : Option SetFault) (old new : Replica) → done_unless o ≡ done_unless u → changed_unless o old new ≡ changed_unless u old new
by_answer None None old new e = refl
by_answer None (Some f) old new e = cc
by_answer (Some f) None old new e = cc
by_answer (Some f) (Some g) old new e = refl

both_ways : (o u : Option SetFault) (m : Replica) (p q : Path) (c d : Contents) → (p ≡ q → ⊥)
    → changed_unless o (changed_unless u m (with_contents m q d)) (with_contents (changed_unless u m (with_contents m q d)) p c)
    ≡ changed_unless u (changed_unless o m (with_contents m p c)) (with_contents (changed_unless o m (with_contents m p c)) q d)
both_ways None None m p q c d off = contents_commute m p q c d off
both_ways None (Some f) m p q c d off = refl
both_ways (Some f) None m p q c d off = refl
both_ways (Some f) (Some g) m p q c d off = refl

pub fault_alike : AnswersAlike → (P : Parts) (r : Path) (m k : Replica) (p : Path) (c : Contents) → Alike P r m k → IsTrue (write P r p) → done_unless (set_fault m p c) ≡ done_unless (set_fault k p c)
unfolding answer
fault_alike answers P r m k p c a may = answers P r m k (Set p c) a may

-- Operations on the replica of one root.
module _ (answers : AnswersAlike) (others : OthersAlike) (P Q : Parts) (r : Path) (m : Replica)
    (one : ¬ (Overlap (write P r) Q)) (two : ¬ (Overlap (write Q r) P)) where
  same_place : (p q : Path) → IsTrue (write P r p) → IsTrue (write Q r q) → p ≡ q → ⊥
  same_place p q a b e = one (p, p, is_over-reflexive p, a, subst (λ x. IsTrue (reach Q x)) (sym e) (write-reaches Q r q b))

  set_set : (p q : Path) (c d : Contents) → IsTrue (write P r p) → IsTrue (write Q r q) → after (after m (Set q d)) (Set p c) ≡ after (after m (Set p c)) (Set q d)
  unfolding after
  set_set p q c d a b =
      let left = changed_unless (set_fault m q d) m (with_contents m q d) in
      let right = changed_unless (set_fault m p c) m (with_contents m p c) in
      by_answer (set_fault left p c) (set_fault m p c) left (with_contents left p c) (fault_alike answers P r left m p c (others Q P r m (Set q d) two one b) a)
      ∙ (both_ways (set_fault m p c) (set_fault m q d) m p q c d (same_place p q a b)
      ∙ sym (by_answer (set_fault right q d) (set_fault m q d) right (with_contents right q d) (fault_alike answers Q r right m q d (others P Q r m (Set p c) one two a) b)))

  pub ops_commute : (a b : Op) → May P r a → May Q r b → after (after m b) a ≡ after (after m a) b
  unfolding after
  ops_commute (Look d) b h g = refl
  ops_commute (Fetch d) b h g = refl
  ops_commute (Set p c) (Look d) h g = refl
  ops_commute (Set p c) (Fetch d) h g = refl
  ops_commute (Set p c) (Set q d) h g = set_set p q c d h g

-- Pairs of roots.
pub same_pair : (k l : RootPair) → pair_eq k l ≡ true → k ≡ l
same_pair k l e =
    let two = and_parts (path_eq k.0 l.0) (path_eq k.1 l.1) e in
    let a = same_paths k.0 l.0 two.0 in
    let b = same_paths k.1 l.1 two.1 in
    λ i. (a i, b i)

-- Events and ends of two jobs.
entries_commute : (x y z : List Logged) (b c : Bool) (e f : Logged) → (b ≡ true → c ≡ true → ⊥)
    → cond b (cond c (x ++ f ∷ []) x ++ e ∷ []) (cond c (x ++ f ∷ []) x) ≡ cond c (cond b (x ++ e ∷ []) x ++ f ∷ []) (cond b (x ++ e ∷ []) x)
entries_commute x y z true true e f h = absurd (h refl refl)
entries_commute x y z true false e f h = refl
entries_commute x y z false true e f h = refl
entries_commute x y z false false e f h = refl

left_out : {X : Type 0} (b : Bool) (x y : X) → b ≡ false → cond b x y ≡ y
left_out true x y e = absurd (false≢true (sym e))
left_out false x y e = refl

either_first : (b c d : Bool) → cond b true (cond c true d) ≡ cond c true (cond b true d)
either_first true true d = refl
either_first true false d = refl
either_first false true d = refl
either_first false false d = refl

module _ (answers : AnswersAlike) (others : OthersAlike) (P Q : Parts) (apart : AreApart P Q) (i k : ℕ) (off : i ≢ k) where
  unlike : (i == k) ≡ false
  unlike = false_from_ne_true (i == k) (λ e. off (eqb-true i k e))

  unlike_turned : (k == i) ≡ false
  unlike_turned = false_from_ne_true (k == i) (λ e. off (sym (eqb-true k i e)))

  never_both : (l : ℕ) → (l == i) ≡ true → (l == k) ≡ true → ⊥
  never_both l a b = off (sym (eqb-true l i a) ∙ eqb-true l k b)

  replicas_at : (r s t : Path) (m : Replica) (a b : Op) (x y : Bool) → path_eq r t ≡ x → path_eq s t ≡ y
      → IsTrue (has_root P r) → IsTrue (has_root Q s) → May P r a → May Q s b
      → cond x (after (cond y (after m b) m) a) (cond y (after m b) m) ≡ cond y (after (cond x (after m a) m) b) (cond x (after m a) m)
  replicas_at r s t m a b true true e f p q g h =
      let er : r ≡ t = same_paths r t e in
      let es : s ≡ t = same_paths s t f in
      let free = apart.writes t (subst (λ z. IsTrue (has_root P z)) er p) (subst (λ z. IsTrue (has_root Q z)) es q) in
      ops_commute answers others P Q t m free.0 free.1 a b (subst (λ z. May P z a) er g) (subst (λ z. May Q z b) es h)
  replicas_at r s t m a b true false e f p q g h = refl
  replicas_at r s t m a b false true e f p q g h = refl
  replicas_at r s t m a b false false e f p q g h = refl

module _ (answers : AnswersAlike) (others : OthersAlike) where
  -- What a job is answered isn't changed by an operation of the other one.
  answer_by : (P Q : Parts) → AreApart P Q → (r s : Path) (m : Replica) (a b : Op) (y : Bool) → path_eq s r ≡ y
      → IsTrue (has_root P r) → IsTrue (has_root Q s) → May P r a → May Q s b
      → answer (cond y (after m b) m) P r a ≡ answer m P r a
  answer_by P Q apart r s m a b true e p q g h =
      let es : s ≡ r = same_paths s r e in
      let free = apart.writes r p (subst (λ z. IsTrue (has_root Q z)) es q) in
      answers P r (after m b) m a (others Q P r m b free.1 free.0 (subst (λ z. May Q z b) es h)) g
  answer_by P Q apart r s m a b false e p q g h = refl

pub turn_round : (P Q : Parts) → AreApart P Q → AreApart Q P
turn_round P Q apart = record {
  writes = λ r q p. (let two = apart.writes r p q in (two.1, two.0));
  marks = λ e p b a. apart.marks (sym e) p a b;
}

-- Another job's marks change nothing where the profile reaches.
kept_marks : (P Q : Parts) → AreApart P Q → (A : Archive) (log : List Logged) (b : Bool) → pair_eq (pair_of Q) (pair_of P) ≡ b → SameReached P (cond b (archive_after Q A log) A) A
kept_marks P Q apart A log true e = kept_by_other P Q (apart.marks (sym (same_pair (pair_of Q) (pair_of P) e))) A log
kept_marks P Q apart A log false e = λ q h. refl

items_kept : (P Q : Parts) → AreApart P Q → (A : Archive) (log own : List Logged)
    → items (view_in P (cond (pair_eq (pair_of Q) (pair_of P)) (archive_after Q A log) A) own) ≡ items (view_in P A own)
items_kept P Q apart A log own =
    items_alike P (cond (pair_eq (pair_of Q) (pair_of P)) (archive_after Q A log) A) A (kept_marks P Q apart A log (pair_eq (pair_of Q) (pair_of P)) refl) (sights own)

module _ (answers : AnswersAlike) (others : OthersAlike) (P Q : Parts) (apart : AreApart P Q) (i k : ℕ) (off : i ≢ k) where
  events : (sp sq : Side) (a b : Op) (w : World) (r s : Path) → root_at P sp ≡ r → root_at Q sq ≡ s → IsTrue (has_root P r) → IsTrue (has_root Q s) → May P r a → May Q s b
      → event P i sp a (event Q k sq b w (Some s)) (Some r) ≡ event Q k sq b (event P i sp a w (Some r)) (Some s)
  events sp sq a b w r s er es p q g h =
      let first : answer (cond (path_eq s (root_at P sp)) (after (w.replica (root_at P sp)) b) (w.replica (root_at P sp))) P (root_at P sp) a ≡ answer (w.replica (root_at P sp)) P (root_at P sp) a =
      answer_by answers others P Q apart (root_at P sp) s (w.replica (root_at P sp)) a b (path_eq s (root_at P sp)) refl
      (subst (λ z. IsTrue (has_root P z)) (sym er) p) q (subst (λ z. May P z a) (sym er) g) h in
      let second : answer (cond (path_eq r (root_at Q sq)) (after (w.replica (root_at Q sq)) a) (w.replica (root_at Q sq))) Q (root_at Q sq) b ≡ answer (w.replica (root_at Q sq)) Q (root_at Q sq) b =
      answer_by answers others Q P (turn_round P Q apart) (root_at Q sq) r (w.replica (root_at Q sq)) b a (path_eq r (root_at Q sq)) refl
      (subst (λ z. IsTrue (has_root Q z)) (sym es) q) p (subst (λ z. May Q z b) (sym es) h) g in
      let logs : (l : ℕ) → with_entry (with_entry w.log k (logged Q k sq b (w.replica (root_at Q sq)))) i (record { side = sp; step = record { job = i; op = a; answer = answer (cond (path_eq s (root_at P sp)) (after (w.replica (root_at P sp)) b) (w.replica (root_at P sp))) P (root_at P sp) a } }) l
      ≡ with_entry (with_entry w.log i (logged P i sp a (w.replica (root_at P sp)))) k (record { side = sq; step = record { job = k; op = b; answer = answer (cond (path_eq r (root_at Q sq)) (after (w.replica (root_at Q sq)) a) (w.replica (root_at Q sq))) Q (root_at Q sq) b } }) l =
      λ l. (λ z. with_entry (with_entry w.log k (logged Q k sq b (w.replica (root_at Q sq)))) i (record { side = sp; step = record { job = i; op = a; answer = first z } }) l)
      ∙ (entries_commute (w.log l) [] [] (l == i) (l == k) (logged P i sp a (w.replica (root_at P sp))) (logged Q k sq b (w.replica (root_at Q sq))) (never_both answers others P Q apart i k off l)
      ∙ sym (λ z. with_entry (with_entry w.log i (logged P i sp a (w.replica (root_at P sp)))) k (record { side = sq; step = record { job = k; op = b; answer = second z } }) l)) in
      λ z. record {
        replica = λ t. replicas_at answers others P Q apart i k off r s t (w.replica t) a b (path_eq r t) (path_eq s t) refl refl p q g h z;
        archive = w.archive;
        log = λ l. logs l z;
        done = w.done;
        items = w.items;
      }

  event_event : (sp sq : Side) (a b : Op) (w : World) (o u : Option Path) → at_side P.roots sp ≡ o → at_side Q.roots sq ≡ u
      → ((r : Path) → o ≡ Some r → May P r a) → ((s : Path) → u ≡ Some s → May Q s b)
      → event P i sp a (event Q k sq b w u) o ≡ event Q k sq b (event P i sp a w o) u
  event_event sp sq a b w None u e f g h = refl
  event_event sp sq a b w (Some r) None e f g h = refl
  event_event sp sq a b w (Some r) (Some s) e f g h =
      events sp sq a b w r s (ap root_or_top e) (ap root_or_top f) (has_its_root P sp r e) (has_its_root Q sq s f) (g r refl) (h s refl)

  event_ending : (sp : Side) (a : Op) (w : World) (o : Option Path) → event P i sp a (ending Q k w) o ≡ ending Q k (event P i sp a w o)
  event_ending sp a w None = refl
  event_ending sp a w (Some r) =
      let same : w.log k ≡ with_entry w.log i (logged P i sp a (w.replica (root_at P sp))) k =
      sym (left_out (k == i) (w.log k ++ logged P i sp a (w.replica (root_at P sp)) ∷ []) (w.log k) (unlike_turned answers others P Q apart i k off)) in
      λ z. record {
        replica = λ s. cond (path_eq r s) (after (w.replica s) a) (w.replica s);
        archive = λ l. cond (pair_eq (pair_of Q) l) (archive_after Q (w.archive l) (same z)) (w.archive l);
        log = with_entry w.log i (logged P i sp a (w.replica (root_at P sp)));
        done = λ l. cond (l == k) true (w.done l);
        items = λ l. cond (l == k) (items (view_in Q (archive_for Q w) (same z))) (w.items l);
      }

  archives_at : (l : RootPair) (A : Archive) (x y : List Logged) (b c : Bool) → pair_eq (pair_of P) l ≡ b → pair_eq (pair_of Q) l ≡ c
      → cond b (archive_after P (cond c (archive_after Q A y) A) x) (cond c (archive_after Q A y) A) ≡ cond c (archive_after Q (cond b (archive_after P A x) A) y) (cond b (archive_after P A x) A)
  archives_at l A x y true true e f =
      ends_commute P Q (apart.marks (same_pair (pair_of P) l e ∙ sym (same_pair (pair_of Q) l f))) A x y
  archives_at l A x y true false e f = refl
  archives_at l A x y false true e f = refl
  archives_at l A x y false false e f = refl

  items_at : (w : World) (l : ℕ) → (ending P i (ending Q k w)).items l ≡ (ending Q k (ending P i w)).items l
  items_at w l =
      let own = items (view_in P (archive_for P w) (w.log i)) in
      let of_other = items (view_in Q (archive_for Q w) (w.log k)) in
      ap (λ xs. cond (l == i) xs (cond (l == k) of_other (w.items l))) (items_kept P Q apart (archive_for P w) (w.log k) (w.log i))
      ∙ (turned_conds (l == i) (l == k) own of_other (w.items l) (never_both answers others P Q apart i k off l)
      ∙ sym (ap (λ xs. cond (l == k) xs (cond (l == i) own (w.items l))) (items_kept Q P (turn_round P Q apart) (archive_for Q w) (w.log i) (w.log k))))

  ending_ending : (w : World) → ending P i (ending Q k w) ≡ ending Q k (ending P i w)
  ending_ending w z = record {
    replica = w.replica;
    archive = λ l. archives_at l (w.archive l) (w.log i) (w.log k) (pair_eq (pair_of P) l) (pair_eq (pair_of Q) l) refl refl z;
    log = w.log;
    done = λ l. either_first (l == i) (l == k) (w.done l) z;
    items = λ l. items_at w l z;
  }

-- A job does the same after a turn of the other one.
module _ (answers : AnswersAlike) (others : OthersAlike) (P Q : Parts) (apart : AreApart P Q) (i k : ℕ) (off : i ≢ k) where
  does_after_event : (side : Side) (op : Op) (w : World) (o : Option Path) → next_for P i (event Q k side op w o) ≡ next_for P i w
  does_after_event side op w None = refl
  does_after_event side op w (Some s) =
      ap (λ log. cond (w.done i) Stopped (next P (archive_for P w) log))
      (left_out (i == k) (w.log i ++ logged Q k side op (w.replica (root_at Q side)) ∷ []) (w.log i) (unlike answers others P Q apart i k off))

  does_same : (w : World) (n : Next) → next_for P i (act Q k w n) ≡ next_for P i w
  does_same w (Ask side op) = does_after_event side op w (at_side Q.roots side)
  does_same w Finished =
      let d = left_out (i == k) true (w.done i) (unlike answers others P Q apart i k off) in
      let n = next_alike P (cond (pair_eq (pair_of Q) (pair_of P)) (archive_after Q (archive_for P w) (w.log k)) (archive_for P w)) (archive_for P w) (kept_marks P Q apart (archive_for P w) (w.log k) (pair_eq (pair_of Q) (pair_of P)) refl) (w.log i) in
      λ z. cond (d z) Stopped (n z)
  does_same w Stopped = refl

pub asks_by : AsksMay → (P : Parts) (i : ℕ) (w : World) (side : Side) (op : Op) (r : Path) (b : Bool) → cond b Stopped (next P (archive_for P w) (w.log i)) ≡ Ask side op → at_side P.roots side ≡ Some r → May P r op
asks_by asks P i w side op r true e h = cc
asks_by asks P i w side op r false e h = asks P (archive_for P w) (w.log i) side op r e h

module _ (asks : AsksMay) (answers : AnswersAlike) (others : OthersAlike) (P Q : Parts) (apart : AreApart P Q) (i k : ℕ) (off : i ≢ k) where
  acts_by : (w : World) (n m : Next) → next_for P i w ≡ n → next_for Q k w ≡ m → act P i (act Q k w m) n ≡ act Q k (act P i w n) m
  acts_by w Stopped m e f = refl
  acts_by w (Ask side op) Stopped e f = refl
  acts_by w Finished Stopped e f = refl
  acts_by w Finished Finished e f = ending_ending answers others P Q apart i k off w
  acts_by w (Ask side op) Finished e f = event_ending answers others P Q apart i k off side op w (at_side P.roots side)
  acts_by w Finished (Ask side op) e f = sym (event_ending answers others Q P (turn_round P Q apart) k i (λ h. off (sym h)) side op w (at_side Q.roots side))
  acts_by w (Ask sp a) (Ask sq b) e f =
      event_event answers others P Q apart i k off sp sq a b w (at_side P.roots sp) (at_side Q.roots sq) refl refl
      (λ r h. asks_by asks P i w sp a r (w.done i) e h) (λ s h. asks_by asks Q k w sq b s (w.done k) f h)

  pub acts_commute : (w : World) → act P i (act Q k w (next_for Q k w)) (next_for P i (act Q k w (next_for Q k w))) ≡ act Q k (act P i w (next_for P i w)) (next_for Q k (act P i w (next_for P i w)))
  acts_commute w =
      ap (act P i (act Q k w (next_for Q k w))) (does_same answers others P Q apart i k off w (next_for Q k w))
      ∙ (acts_by w (next_for P i w) (next_for Q k w) refl refl
      ∙ sym (ap (act Q k (act P i w (next_for P i w))) (does_same answers others Q P (turn_round P Q apart) k i (λ h. off (sym h)) w (next_for P i w))))
