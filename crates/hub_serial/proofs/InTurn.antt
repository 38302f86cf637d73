-- In a serial schedule each job synchronizes what the ones before it left.
use Rattle.std.proofs.Common.{◌≡◌, Bool, true, false, cond, not, ◌||◌, List, [], ◌∷◌, ◌++◌, length, Option, Some, None, refl, ap, sym, ◌∙◌, subst}
use Rattle.std.specs.Prelude.{◌==◌, ℕ, zero, suc, filter, slice_get, replicate}
use Rattle.std.specs.List.{list_any}
use Rattle.std.proofs.lemmas.Bool.{false≢true, or_left, or_right, or_parts, false_from_ne_true}
use borrow.Author.Tests.{eqb-true}
use Rattle.hub_path.specs.Path.{Path, path_eq}
use Rattle.hub_path.specs.declared.side.Side.{Side}
use Rattle.hub_profile.specs.Parts.{Parts, at_side}
use Rattle.hub_tree.specs.Tree.{IsTree, Replica, set_fault, with_contents}
use Rattle.hub_tree.specs.declared.contents.Contents.{Contents}
use Rattle.hub_tree.specs.declared.fault.SetFault.{SetFault}
use Rattle.hub_job.specs.Machine.{after, changed_unless}
use Rattle.hub_job.specs.declared.op.Op.{Op}
use Rattle.hub_job.specs.declared.op.Op.TheVariants.{Look, Fetch, Set}
use Rattle.hub_job.specs.declared.op.Next.{Next}
use Rattle.hub_job.specs.declared.op.Next.TheVariants.{Ask, Finished, Stopped}
use Rattle.hub_path.specs.declared.side.Side.TheVariants.{Left, Right}
use Rattle.hub_reconcile.specs.Items.{items}
use Rattle.hub_job.specs.Job.{view_in}
use Rattle.hub_job.specs.Run.{root_at}
use Rattle.hub_job.specs.Same.{own_turns}
use Rattle.hub_serial.specs.Schedule.{after_turns, jobs_in_order, serial_turns, turns_by_job}
use Rattle.hub_serial.specs.World.{World, act, archive_for, next_for, event, turn, turn_of}
use Rattle.hub_serial.specs.Clash.{AreProfiles}
use Rattle.hub_serial.specs.Serial.{IsSyncOf, AreSyncsInTurn, IsFresh, WorkInTurn}
use Rattle.hub_serial.proofs.Traces.{itself}
use Rattle.hub_serial.proofs.Lone.{passed, HasEnded, ends, enough, synchronized, unrefused}

-- Whether a job is among these.
abbrev pub has : ℕ → List ℕ → Bool
has j js = list_any (λ i. i == j) js

abbrev pub Distinct : List ℕ → Type 0
Distinct [] = Unit {0}
Distinct (j ∷ L) = (has j L ≡ false) × Distinct L

one_more : (j i : ℕ) (js : List ℕ) (b : Bool) → (i == j) ≡ b → js ≡ replicate (length js) j → cond b (i ∷ js) js ≡ replicate (length (cond b (i ∷ js) js)) j
one_more j i js true e h = ap (λ x. x ∷ js) (eqb-true i j e) ∙ ap (λ xs. j ∷ xs) h
one_more j i js false e h = h

turns_alone : (j : ℕ) (js : List ℕ) → own_turns j js ≡ replicate (length (own_turns j js)) j
turns_alone j [] = refl
turns_alone j (i ∷ js) = one_more j i (own_turns j js) (i == j) refl (turns_alone j js)

pub serial_in_turn : (js L : List ℕ) → turns_by_job L js ≡ serial_turns (λ j. length (own_turns j js)) L
serial_in_turn js [] = refl
serial_in_turn js (j ∷ L) = (λ z. turns_alone j js z ++ serial_in_turn js L z)

pub append_turns : {W : Type 0} (step : ℕ → W → W) (xs ys : List ℕ) (w : W) → after_turns step (xs ++ ys) w ≡ after_turns step ys (after_turns step xs w)
append_turns step [] ys w = refl
append_turns step (x ∷ xs) ys w = append_turns step xs ys (step x w)

-- Turns of other jobs leave a job's log, whether it is done, and its items.
pub record IsLeftAlone (l : ℕ) (w v : World) : Type 0 where
  pub log : v.log l ≡ w.log l
  pub done : v.done l ≡ w.done l
  pub items : v.items l ≡ w.items l

left_by_event : (P : Parts) (i l : ℕ) (side : Side) (op : Op) (w : World) (o : Option Path) → (l == i) ≡ false → IsLeftAlone l w (event P i side op w o)
left_by_event P i l side op w None e = record { log = refl; done = refl; items = refl }
left_by_event P i l side op w (Some r) e = record { log = passed (l == i) _ (w.log l) e; done = refl; items = refl }

pub left_by_act : (P : Parts) (i l : ℕ) (w : World) (n : Next) → (l == i) ≡ false → IsLeftAlone l w (act P i w n)
left_by_act P i l w (Ask side op) e = left_by_event P i l side op w (at_side P.roots side) e
left_by_act P i l w Finished e = record { log = refl; done = passed (l == i) true (w.done l) e; items = passed (l == i) (items (view_in P (archive_for P w) (w.log i))) (w.items l) e }
left_by_act P i l w Stopped e = record { log = refl; done = refl; items = refl }

left_by_turn_of : (i l : ℕ) (w : World) (o : Option Parts) → (l == i) ≡ false → IsLeftAlone l w (turn_of i w o)
left_by_turn_of i l w None e = record { log = refl; done = refl; items = refl }
left_by_turn_of i l w (Some P) e = left_by_act P i l w (next_for P i w) e

left_by_turn : (Ps : List Parts) (i l : ℕ) (w : World) → (l == i) ≡ false → IsLeftAlone l w (turn Ps i w)
unfolding turn
left_by_turn Ps i l w e = left_by_turn_of i l w (slice_get Ps i) e

pub left_more : (l : ℕ) (w v u : World) → IsLeftAlone l w v → IsLeftAlone l v u → IsLeftAlone l w u
left_more l w v u a b = record { log = b.log ∙ a.log; done = b.done ∙ a.done; items = b.items ∙ a.items }

pub left_by_turns : (Ps : List Parts) (l : ℕ) (js : List ℕ) (w : World) → has l js ≡ false → IsLeftAlone l w (after_turns (turn Ps) js w)
left_by_turns Ps l [] w e = record { log = refl; done = refl; items = refl }
left_by_turns Ps l (i ∷ js) w e =
    let two = or_parts (i == l) (has l js) e in
    left_more l w (turn Ps i w) (after_turns (turn Ps) js (turn Ps i w))
    (left_by_turn Ps i l w (false_from_ne_true (l == i) (λ h. false≢true (sym two.0 ∙ (ap (λ x. i == x) (eqb-true l i h) ∙ itself i)))))
    (left_by_turns Ps l js (turn Ps i w) two.1)

-- Which jobs are among which.
pub has_filtered : (f : ℕ → Bool) (l : ℕ) (xs : List ℕ) → has l (filter f xs) ≡ true → has l xs ≡ true
has_filtered f l [] e = e
has_filtered f l (x ∷ xs) e =
    elim (f x) as (λ b. has l (cond b (x ∷ filter f xs) (filter f xs)) ≡ true → ((x == l) || has l xs) ≡ true) [
      | true ↦ λ h. elim (x == l) as (λ c. (c || has l (filter f xs)) ≡ true → (c || has l xs) ≡ true) [
        | true ↦ λ g. refl
        | false ↦ λ g. has_filtered f l xs g
      ] h
      | false ↦ λ h. or_right (x == l) (has l xs) (has_filtered f l xs h)
    ] e

not_filtered : (f : ℕ → Bool) (l : ℕ) (xs : List ℕ) → has l xs ≡ false → has l (filter f xs) ≡ false
not_filtered f l xs e = false_from_ne_true (has l (filter f xs)) (λ h. false≢true (sym e ∙ has_filtered f l xs h))

pub distinct_filtered : (f : ℕ → Bool) (xs : List ℕ) → Distinct xs → Distinct (filter f xs)
distinct_filtered f [] d = tt
distinct_filtered f (x ∷ xs) d =
    elim (f x) as (λ b. Distinct (cond b (x ∷ filter f xs) (filter f xs))) [
      | true ↦ (not_filtered f x xs d.0, distinct_filtered f xs d.1)
      | false ↦ distinct_filtered f xs d.1
    ]

pub has_no_more : (j : ℕ) (xs : List ℕ) → has j (filter (λ i. not (i == j)) xs) ≡ false
has_no_more j [] = refl
has_no_more j (x ∷ xs) =
    elim (x == j) as (λ b. (x == j) ≡ b → has j (cond (not b) (x ∷ filter (λ i. not (i == j)) xs) (filter (λ i. not (i == j)) xs)) ≡ false) [
      | true ↦ λ e. has_no_more j xs
      | false ↦ λ e. ap (λ b. b || has j (filter (λ i. not (i == j)) xs)) e ∙ has_no_more j xs
    ] refl

pub distinct_order : (js : List ℕ) → Distinct (jobs_in_order js)
distinct_order [] = tt
distinct_order (j ∷ js) = (has_no_more j (jobs_in_order js), distinct_filtered (λ i. not (i == j)) (jobs_in_order js) (distinct_order js))

pub ordered_has : (l : ℕ) (js : List ℕ) → has l (jobs_in_order js) ≡ true → has l js ≡ true
ordered_has l [] e = e
ordered_has l (j ∷ js) e =
    elim (j == l) as (λ b. (b || has l (filter (λ i. not (i == j)) (jobs_in_order js))) ≡ true → (b || has l js) ≡ true) [
      | true ↦ λ h. refl
      | false ↦ λ h. ordered_has l js (has_filtered (λ i. not (i == j)) l (jobs_in_order js) h)
    ] e

pub has_not_both : (j l : ℕ) (L : List ℕ) → has j L ≡ false → has l L ≡ true → (l == j) ≡ false
has_not_both j l L e h = false_from_ne_true (l == j) (λ g. false≢true (sym e ∙ (ap (λ x. has x L) (sym (eqb-true l j g)) ∙ h)))

-- Turns of other jobs.
has_append : (l : ℕ) (xs ys : List ℕ) → has l xs ≡ false → has l ys ≡ false → has l (xs ++ ys) ≡ false
has_append l [] ys e f = f
has_append l (x ∷ xs) ys e f =
    let two = or_parts (x == l) (has l xs) e in
    ap (λ b. b || has l (xs ++ ys)) two.0 ∙ has_append l xs ys two.1 f

pub has_replicated : (j l n : ℕ) → (l == j) ≡ false → has l (replicate n j) ≡ false
has_replicated j l zero e = refl
has_replicated j l (suc n) e =
    ap (λ b. b || has l (replicate n j)) (false_from_ne_true (j == l) (λ g. false≢true (sym e ∙ (ap (λ x. l == x) (eqb-true j l g) ∙ itself l))))
    ∙ has_replicated j l n e

pub has_serial_turns : (n : ℕ → ℕ) (l : ℕ) (L : List ℕ) → has l L ≡ false → has l (serial_turns n L) ≡ false
has_serial_turns n l [] e = refl
has_serial_turns n l (j ∷ L) e =
    let two = or_parts (j == l) (has l L) e in
    has_append l (replicate (n j) j) (serial_turns n L)
    (has_replicated j l (n j) (false_from_ne_true (l == j) (λ g. false≢true (sym two.0 ∙ (ap (λ x. j == x) (eqb-true l j g) ∙ itself j)))))
    (has_serial_turns n l L two.1)

-- Each turn leaves trees.
abbrev pub SetsKeepTrees : Type 0
SetsKeepTrees = (m : Replica) (p : Path) (c : Contents) → IsTree m → set_fault m p c ≡ None → IsTree (with_contents m p c)

abbrev AllTrees : World → Type 0
AllTrees w = (r : Path) → IsTree (w.replica r)

tree_by : SetsKeepTrees → (m : Replica) (p : Path) (c : Contents) (o : Option SetFault) → set_fault m p c ≡ o → IsTree m → IsTree (changed_unless o m (with_contents m p c))
tree_by sets m p c None e t = sets m p c t e
tree_by sets m p c (Some f) e t = t

tree_after : SetsKeepTrees → (m : Replica) (op : Op) → IsTree m → IsTree (after m op)
unfolding after
tree_after sets m (Look d) t = t
tree_after sets m (Fetch p) t = t
tree_after sets m (Set p c) t = tree_by sets m p c (set_fault m p c) refl t

tree_if : (b : Bool) (m k : Replica) → IsTree m → IsTree k → IsTree (cond b m k)
tree_if true m k s t = s
tree_if false m k s t = t

trees_event : SetsKeepTrees → (P : Parts) (j : ℕ) (side : Side) (op : Op) (w : World) (o : Option Path) → AllTrees w → AllTrees (event P j side op w o)
trees_event sets P j side op w None t = t
trees_event sets P j side op w (Some r) t = λ s. tree_if (path_eq r s) (after (w.replica s) op) (w.replica s) (tree_after sets (w.replica s) op (t s)) (t s)

trees_act : SetsKeepTrees → (P : Parts) (j : ℕ) (w : World) (n : Next) → AllTrees w → AllTrees (act P j w n)
trees_act sets P j w (Ask side op) t = trees_event sets P j side op w (at_side P.roots side) t
trees_act sets P j w Finished t = t
trees_act sets P j w Stopped t = t

trees_turn_of : SetsKeepTrees → (j : ℕ) (w : World) (o : Option Parts) → AllTrees w → AllTrees (turn_of j w o)
trees_turn_of sets j w None t = t
trees_turn_of sets j w (Some P) t = trees_act sets P j w (next_for P j w) t

trees_turns : SetsKeepTrees → (Ps : List Parts) (js : List ℕ) (w : World) → AllTrees w → AllTrees (after_turns (turn Ps) js w)
unfolding turn
trees_turns sets Ps [] w t = t
trees_turns sets Ps (j ∷ js) w t = trees_turns sets Ps js (turn_of j w (slice_get Ps j)) (trees_turn_of sets j w (slice_get Ps j) t)

module _ (Ps : List Parts) (facts : AreProfiles Ps) where
  whole_by : (j : ℕ) (w v : World) (P : Parts) (is : slice_get Ps j ≡ Some P) → ((k : Side) → IsTree (w.replica (root_at P k))) → w.log j ≡ []
      → HasEnded P (facts j P is) j w v → IsSyncOf P j w v
  whole_by j w v P is trees none (m, u, own, same, fin, end) =
      subst (λ x. IsSyncOf P j w x) (sym end) (synchronized P (facts j P is) j w u m trees none own same fin)

  pub whole : (j n : ℕ) (w : World) (P : Parts) → ((k : Side) → IsTree (w.replica (root_at P k))) → IsFresh w j → slice_get Ps j ≡ Some P
      → (after_turns (turn Ps) (replicate n j) w).done j ≡ true → IsSyncOf P j w (after_turns (turn Ps) (replicate n j) w)
  whole j n w P trees fresh is d = whole_by j w (after_turns (turn Ps) (replicate n j) w) P is trees fresh.log (ends P (facts j P is) j Ps is n w fresh.done d)

module _ (sets : SetsKeepTrees) (Ps : List Parts) (facts : AreProfiles Ps) where
  pub works_in_turn : (n : ℕ → ℕ) (L : List ℕ) (w : World) → Distinct L → AllTrees w → ((l : ℕ) → has l L ≡ true → IsFresh w l)
      → WorkInTurn Ps n (after_turns (turn Ps) (serial_turns n L) w) L w
  works_in_turn n [] w d trees fresh = refl
  works_in_turn n (j ∷ L) w d trees fresh =
      let v = after_turns (turn Ps) (replicate (n j) j) w in
      let parts : after_turns (turn Ps) (replicate (n j) j ++ serial_turns n L) w ≡ after_turns (turn Ps) (serial_turns n L) v = append_turns (turn Ps) (replicate (n j) j) (serial_turns n L) w in
      let here : has j (j ∷ L) ≡ true = or_left (j == j) (has j L) (itself j) in
      let rest = left_by_turns Ps j (serial_turns n L) v (has_serial_turns n j L d.0) in
      let fresh_more : (l : ℕ) → has l L ≡ true → IsFresh v l = λ l h.
      (let alone = left_by_turns Ps l (replicate (n j) j) w (has_replicated j l (n j) (has_not_both j l L d.0 h)) in
      let old = fresh l (or_right (j == l) (has l L) h) in
      record { log = alone.log ∙ old.log; done = alone.done ∙ old.done }) in
      let more = works_in_turn n L v d.1 (trees_turns sets Ps (replicate (n j) j) w trees) fresh_more in
      subst (λ x. WorkInTurn Ps n x (j ∷ L) w) (sym parts) (
        v,
        record {
          alone = refl;
          log = rest.log;
          done = rest.done;
          items = rest.items;
          ok = λ P is. unrefused P (facts j P is) j Ps is (n j) w (λ k. trees (root_at P k)) (fresh j here).log (fresh j here).done;
          sync = λ P is d. whole Ps facts j (n j) w P (λ k. trees (root_at P k)) (fresh j here) is d;
          enough = λ P is l. enough P (facts j P is) j Ps is w (fresh j here).log (fresh j here).done (trees (root_at P Left)) (trees (root_at P Right)) (n j) l;
        },
        more,
      )

-- If all are done, all have synchronized.
no_job : (Ps : List Parts) (j n : ℕ) (w : World) → slice_get Ps j ≡ None → after_turns (turn Ps) (replicate n j) w ≡ w
unfolding turn
no_job Ps j zero w e = refl
no_job Ps j (suc n) w e = ap (λ o. after_turns (turn Ps) (replicate n j) (turn_of j w o)) e ∙ no_job Ps j n w e

has_profile : (Ps : List Parts) (j n : ℕ) (w : World) (o : Option Parts) → slice_get Ps j ≡ o → w.done j ≡ false
    → (after_turns (turn Ps) (replicate n j) w).done j ≡ true → (P : Parts) × (slice_get Ps j ≡ Some P)
has_profile Ps j n w None e f d = absurd (false≢true (sym f ∙ (ap (λ (x : World). x.done j) (sym (no_job Ps j n w e)) ∙ d)))
has_profile Ps j n w (Some P) e f d = (P, e)

pub all_synchronize : (Ps : List Parts) (turns : ℕ → ℕ) (end : World) (L : List ℕ) (w : World) → Distinct L
    → ((l : ℕ) → has l L ≡ true → w.done l ≡ false) → ((l : ℕ) → has l L ≡ true → end.done l ≡ true)
    → WorkInTurn Ps turns end L w → AreSyncsInTurn Ps L w end
all_synchronize Ps turns end [] w d fresh done e = e
all_synchronize Ps turns end (j ∷ L) w d fresh done (v, work, more) =
    let here : has j (j ∷ L) ≡ true = or_left (j == j) (has j L) (itself j) in
    let ended : v.done j ≡ true = sym work.done ∙ done j here in
    let is = has_profile Ps j (turns j) w (slice_get Ps j) refl (fresh j here) (ap (λ (x : World). x.done j) (sym work.alone) ∙ ended) in
    let later : (l : ℕ) → has l L ≡ true → v.done l ≡ false = λ l h.
    (ap (λ (x : World). x.done l) work.alone
    ∙ ((left_by_turns Ps l (replicate (turns j) j) w (has_replicated j l (turns j) (has_not_both j l L d.0 h))).done ∙ fresh l (or_right (j == l) (has l L) h))) in
    (is.0, v, is.1, work.sync is.0 is.1 ended, all_synchronize Ps turns end L v d.1 later (λ l h. done l (or_right (j == l) (has l L) h)) more)
