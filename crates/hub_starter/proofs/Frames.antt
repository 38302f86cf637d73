-- What turns of some jobs leave alone, and what they depend on.
use Rattle.std.proofs.Common.{◌≡◌, Bool, true, false, cond, List, [], ◌∷◌, ◌++◌, Option, Some, None, refl, ap, sym, ◌∙◌, subst}
use Rattle.std.specs.Prelude.{◌==◌, ℕ, zero, suc, slice_get, replicate}
use Rattle.std.proofs.lemmas.Bool.{false≢true, or_parts, false_from_ne_true}
use borrow.Author.Tests.{eqb-true}
use Rattle.hub_path.specs.Path.{Path, path_eq}
use Rattle.hub_path.specs.declared.side.Side.{Side}
use Rattle.hub_profile.specs.Parts.{Parts, at_side}
use Rattle.hub_reach.specs.Reach.{has_root}
use Rattle.hub_tree.specs.Tree.{IsTree, Replica, set_fault, with_contents}
use Rattle.hub_tree.specs.declared.contents.Contents.{Contents}
use Rattle.hub_tree.specs.declared.fault.SetFault.{SetFault}
use Rattle.hub_reconcile.specs.Items.{items}
use Rattle.hub_reconcile.specs.laws.Views.{same_paths}
use Rattle.hub_job.specs.Job.{next, view_in}
use Rattle.hub_job.specs.Machine.{after, changed_unless}
use Rattle.hub_job.specs.Run.{logged, root_at}
use Rattle.hub_job.specs.declared.op.Op.{Op}
use Rattle.hub_job.specs.declared.op.Op.TheVariants.{Look, Fetch, Set}
use Rattle.hub_job.specs.declared.op.Next.{Next}
use Rattle.hub_job.specs.declared.op.Next.TheVariants.{Ask, Finished, Stopped}
use Rattle.hub_job.specs.laws.Roots.{has_its_root}
use Rattle.hub_serial.specs.Schedule.{after_turns}
use Rattle.hub_serial.specs.World.{World, act, archive_for, event, next_for, pair_of, turn, turn_of, with_marks}
use Rattle.hub_starter.proofs.Numbers.{has, has_here, has_later, itself}

-- Two worlds are alike for these jobs: the same replicas and archives, and what became of the jobs.
pub record AreAlike (Own : ℕ → Bool) (w v : World) : Type 0 where
  pub replica : w.replica ≡ v.replica
  pub archive : w.archive ≡ v.archive
  pub log : (j : ℕ) → Own j ≡ true → w.log j ≡ v.log j
  pub done : (j : ℕ) → Own j ≡ true → w.done j ≡ v.done j
  pub items : (j : ℕ) → Own j ≡ true → w.items j ≡ v.items j

module _ (Own : ℕ → Bool) where
  alike_event : (P : Parts) (j : ℕ) (side : Side) (op : Op) (w v : World) (o : Option Path)
      → AreAlike Own w v → AreAlike Own (event P j side op w o) (event P j side op v o)
  alike_event P j side op w v None a = a
  alike_event P j side op w v (Some r) a = record {
    replica = λ i s. cond (path_eq r s) (after (a.replica i s) op) (a.replica i s);
    archive = a.archive;
    log = λ l h i. cond (l == j)
        (a.log l h i ++ logged P j side op (a.replica i (root_at P side)) ∷ []) (a.log l h i);
    done = a.done;
    items = a.items;
  }

  alike_act : (P : Parts) (j : ℕ) (w v : World) (n : Next) → Own j ≡ true → AreAlike Own w v
      → AreAlike Own (act P j w n) (act P j v n)
  alike_act P j w v (Ask side op) own a = alike_event P j side op w v (at_side P.roots side) a
  alike_act P j w v Finished own a = record {
    replica = a.replica;
    archive = λ i. with_marks P (a.log j own i) (a.archive i);
    log = a.log;
    done = λ l h i. cond (l == j) true (a.done l h i);
    items = λ l h i. cond (l == j)
        (items (view_in P (a.archive i (pair_of P)) (a.log j own i))) (a.items l h i);
  }
  alike_act P j w v Stopped own a = a

  next_same : (P : Parts) (j : ℕ) (w v : World) → Own j ≡ true → AreAlike Own w v
      → next_for P j w ≡ next_for P j v
  next_same P j w v own a i =
      cond (a.done j own i) Stopped (next P (a.archive i (pair_of P)) (a.log j own i))

  alike_turn_of : (j : ℕ) (w v : World) (o : Option Parts) → Own j ≡ true → AreAlike Own w v
      → AreAlike Own (turn_of j w o) (turn_of j v o)
  alike_turn_of j w v None own a = a
  alike_turn_of j w v (Some P) own a =
      subst (λ n. AreAlike Own (act P j w (next_for P j w)) (act P j v n)) (next_same P j w v own a)
      (alike_act P j w v (next_for P j w) own a)

  -- So they stay, while only these jobs have turns.
  pub alike_turns : (Ps : List Parts) (js : List ℕ) (w v : World)
      → ((l : ℕ) → has l js ≡ true → Own l ≡ true) → AreAlike Own w v
      → AreAlike Own (after_turns (turn Ps) js w) (after_turns (turn Ps) js v)
  unfolding turn
  alike_turns Ps [] w v own a = a
  alike_turns Ps (j ∷ js) w v own a =
      alike_turns Ps js (turn_of j w (slice_get Ps j)) (turn_of j v (slice_get Ps j))
      (λ l h. own l (has_later l j js h))
      (alike_turn_of j w v (slice_get Ps j) (own j (has_here j js)) a)

-- Turns of other jobs leave a job's log, whether it is done, and its items.
pub record IsLeftAlone (l : ℕ) (w v : World) : Type 0 where
  pub log : v.log l ≡ w.log l
  pub done : v.done l ≡ w.done l
  pub items : v.items l ≡ w.items l

pub passed : {X : Type 0} (b : Bool) (x y : X) → b ≡ false → cond b x y ≡ y
passed true x y e = absurd (false≢true (sym e))
passed false x y e = refl

left_by_event : (P : Parts) (i l : ℕ) (side : Side) (op : Op) (w : World) (o : Option Path)
    → (l == i) ≡ false → IsLeftAlone l w (event P i side op w o)
left_by_event P i l side op w None e = record { log = refl; done = refl; items = refl }
left_by_event P i l side op w (Some r) e =
    record { log = passed (l == i) _ (w.log l) e; done = refl; items = refl }

left_by_act : (P : Parts) (i l : ℕ) (w : World) (n : Next) → (l == i) ≡ false
    → IsLeftAlone l w (act P i w n)
left_by_act P i l w (Ask side op) e = left_by_event P i l side op w (at_side P.roots side) e
left_by_act P i l w Finished e = record {
  log = refl;
  done = passed (l == i) true (w.done l) e;
  items = passed (l == i) (items (view_in P (archive_for P w) (w.log i))) (w.items l) e;
}
left_by_act P i l w Stopped e = record { log = refl; done = refl; items = refl }

left_by_turn_of : (i l : ℕ) (w : World) (o : Option Parts) → (l == i) ≡ false
    → IsLeftAlone l w (turn_of i w o)
left_by_turn_of i l w None e = record { log = refl; done = refl; items = refl }
left_by_turn_of i l w (Some P) e = left_by_act P i l w (next_for P i w) e

left_more : (l : ℕ) (w v u : World) → IsLeftAlone l w v → IsLeftAlone l v u → IsLeftAlone l w u
left_more l w v u a b =
    record { log = b.log ∙ a.log; done = b.done ∙ a.done; items = b.items ∙ a.items }

pub left_by_turns : (Ps : List Parts) (l : ℕ) (js : List ℕ) (w : World) → has l js ≡ false
    → IsLeftAlone l w (after_turns (turn Ps) js w)
unfolding turn
left_by_turns Ps l [] w e = record { log = refl; done = refl; items = refl }
left_by_turns Ps l (i ∷ js) w e =
    let two = or_parts (i == l) (has l js) e in
    left_more l w (turn_of i w (slice_get Ps i))
    (after_turns (turn Ps) js (turn_of i w (slice_get Ps i)))
    (left_by_turn_of i l w (slice_get Ps i)
    (false_from_ne_true (l == i)
    (λ h. false≢true (sym two.0 ∙ (ap (λ x. i == x) (eqb-true l i h) ∙ itself i)))))
    (left_by_turns Ps l js (turn_of i w (slice_get Ps i)) two.1)

-- Each turn leaves trees.
abbrev pub SetsKeepTrees : Type 0
SetsKeepTrees = (m : Replica) (p : Path) (c : Contents) → IsTree m → set_fault m p c ≡ None
    → IsTree (with_contents m p c)

abbrev pub AllTrees : World → Type 0
AllTrees w = (r : Path) → IsTree (w.replica r)

tree_by : SetsKeepTrees → (m : Replica) (p : Path) (c : Contents) (o : Option SetFault)
    → set_fault m p c ≡ o → IsTree m → IsTree (changed_unless o m (with_contents m p c))
tree_by sets m p c None e t = sets m p c t e
tree_by sets m p c (Some f) e t = t

tree_after : SetsKeepTrees → (m : Replica) (op : Op) → IsTree m → IsTree (after m op)
unfolding after
tree_after sets m (Look d) t = t
tree_after sets m (Fetch p) t = t
tree_after sets m (Set p c) t = tree_by sets m p c (set_fault m p c) refl t

tree_if : (b : Bool) (m k : Replica) → IsTree m → IsTree k → IsTree (cond b m k)
tree_if true m k s t = s
tree_if false m k s t = t

trees_event : SetsKeepTrees → (P : Parts) (j : ℕ) (side : Side) (op : Op) (w : World)
    (o : Option Path) → AllTrees w → AllTrees (event P j side op w o)
trees_event sets P j side op w None t = t
trees_event sets P j side op w (Some r) t =
    λ s. tree_if (path_eq r s) (after (w.replica s) op) (w.replica s)
    (tree_after sets (w.replica s) op (t s)) (t s)

trees_act : SetsKeepTrees → (P : Parts) (j : ℕ) (w : World) (n : Next) → AllTrees w
    → AllTrees (act P j w n)
trees_act sets P j w (Ask side op) t = trees_event sets P j side op w (at_side P.roots side) t
trees_act sets P j w Finished t = t
trees_act sets P j w Stopped t = t

trees_turn_of : SetsKeepTrees → (j : ℕ) (w : World) (o : Option Parts) → AllTrees w
    → AllTrees (turn_of j w o)
trees_turn_of sets j w None t = t
trees_turn_of sets j w (Some P) t = trees_act sets P j w (next_for P j w) t

pub trees_turns : SetsKeepTrees → (Ps : List Parts) (js : List ℕ) (w : World) → AllTrees w
    → AllTrees (after_turns (turn Ps) js w)
unfolding turn
trees_turns sets Ps [] w t = t
trees_turns sets Ps (j ∷ js) w t =
    trees_turns sets Ps js (turn_of j w (slice_get Ps j)) (trees_turn_of sets j w (slice_get Ps j) t)

-- Who isn't done has left all archives, and has no items.
done_event : (P : Parts) (j : ℕ) (side : Side) (op : Op) (w : World) (o : Option Path)
    → (event P j side op w o).done ≡ w.done
done_event P j side op w None = refl
done_event P j side op w (Some r) = refl

done_stays : (b d : Bool) → d ≡ true → cond b true d ≡ true
done_stays true d e = refl
done_stays false d e = e

done_act : (P : Parts) (j l : ℕ) (w : World) (n : Next) → w.done l ≡ true
    → (act P j w n).done l ≡ true
done_act P j l w (Ask side op) e =
    ap (λ (f : ℕ → Bool). f l) (done_event P j side op w (at_side P.roots side)) ∙ e
done_act P j l w Finished e = done_stays (l == j) (w.done l) e
done_act P j l w Stopped e = e

done_turn_of : (j l : ℕ) (w : World) (o : Option Parts) → w.done l ≡ true
    → (turn_of j w o).done l ≡ true
done_turn_of j l w None e = e
done_turn_of j l w (Some P) e = done_act P j l w (next_for P j w) e

done_turns : (Ps : List Parts) (js : List ℕ) (l : ℕ) (w : World) → w.done l ≡ true
    → (after_turns (turn Ps) js w).done l ≡ true
unfolding turn
done_turns Ps [] l w e = e
done_turns Ps (j ∷ js) l w e =
    done_turns Ps js l (turn_of j w (slice_get Ps j)) (done_turn_of j l w (slice_get Ps j) e)

-- What a turn of a job leaves that isn't done after it.
pub record IsOpenAfter (j : ℕ) (w v : World) : Type 0 where
  pub archive : v.archive ≡ w.archive
  pub items : v.items ≡ w.items

open_event : (P : Parts) (j : ℕ) (side : Side) (op : Op) (w : World) (o : Option Path)
    → IsOpenAfter j w (event P j side op w o)
open_event P j side op w None = record { archive = refl; items = refl }
open_event P j side op w (Some r) = record { archive = refl; items = refl }

open_act : (P : Parts) (j : ℕ) (w : World) (n : Next) → (act P j w n).done j ≡ false
    → IsOpenAfter j w (act P j w n)
open_act P j w (Ask side op) e = open_event P j side op w (at_side P.roots side)
open_act P j w Finished e =
    absurd (false≢true (sym e ∙ ap (λ b. cond b true (w.done j)) (itself j)))
open_act P j w Stopped e = record { archive = refl; items = refl }

open_turn_of : (j : ℕ) (w : World) (o : Option Parts) → (turn_of j w o).done j ≡ false
    → IsOpenAfter j w (turn_of j w o)
open_turn_of j w None e = record { archive = refl; items = refl }
open_turn_of j w (Some P) e = open_act P j w (next_for P j w) e

pub open_turns : (Ps : List Parts) (j n : ℕ) (w : World)
    → (after_turns (turn Ps) (replicate n j) w).done j ≡ false
    → IsOpenAfter j w (after_turns (turn Ps) (replicate n j) w)
unfolding turn
open_turns Ps j zero w e = record { archive = refl; items = refl }
open_turns Ps j (suc n) w e =
    let v = turn_of j w (slice_get Ps j) in
    let later = open_turns Ps j n v e in
    let now : v.done j ≡ false =
    false_from_ne_true (v.done j)
    (λ h. false≢true (sym e ∙ done_turns Ps (replicate n j) j v h)) in
    let first = open_turn_of j w (slice_get Ps j) now in
    record { archive = later.archive ∙ first.archive; items = later.items ∙ first.items }

-- A job that isn't done has no items, if it had none.
abbrev pub HasNoItems : ℕ → World → Type 0
HasNoItems l w = w.done l ≡ false → w.items l ≡ []

no_items_event : (P : Parts) (j l : ℕ) (side : Side) (op : Op) (w : World) (o : Option Path)
    → HasNoItems l w → HasNoItems l (event P j side op w o)
no_items_event P j l side op w None h = h
no_items_event P j l side op w (Some r) h = h

no_items_end : (P : Parts) (j l : ℕ) (w : World) (b : Bool) → (l == j) ≡ b → HasNoItems l w
    → HasNoItems l (act P j w Finished)
no_items_end P j l w true e h =
    λ d. absurd (false≢true (sym d ∙ ap (λ b. cond b true (w.done l)) e))
no_items_end P j l w false e h =
    λ d. passed (l == j) (items (view_in P (archive_for P w) (w.log j))) (w.items l) e
    ∙ h (sym (passed (l == j) true (w.done l) e) ∙ d)

no_items_act : (P : Parts) (j l : ℕ) (w : World) (n : Next) → HasNoItems l w
    → HasNoItems l (act P j w n)
no_items_act P j l w (Ask side op) h = no_items_event P j l side op w (at_side P.roots side) h
no_items_act P j l w Finished h = no_items_end P j l w (l == j) refl h
no_items_act P j l w Stopped h = h

no_items_turn_of : (j l : ℕ) (w : World) (o : Option Parts) → HasNoItems l w
    → HasNoItems l (turn_of j w o)
no_items_turn_of j l w None h = h
no_items_turn_of j l w (Some P) h = no_items_act P j l w (next_for P j w) h

pub no_items_turns : (Ps : List Parts) (js : List ℕ) (l : ℕ) (w : World) → HasNoItems l w
    → HasNoItems l (after_turns (turn Ps) js w)
unfolding turn
no_items_turns Ps [] l w h = h
no_items_turns Ps (j ∷ js) l w h =
    no_items_turns Ps js l (turn_of j w (slice_get Ps j)) (no_items_turn_of j l w (slice_get Ps j) h)

-- Replicas of other roots stay.
other_if : (b : Bool) (m k : Replica) → b ≡ false → cond b m k ≡ k
other_if b m k e = passed b m k e

others_event : (P : Parts) (j : ℕ) (side : Side) (op : Op) (w : World) (s : Path) (o : Option Path)
    → at_side P.roots side ≡ o → has_root P s ≡ false
    → (event P j side op w o).replica s ≡ w.replica s
others_event P j side op w s None at e = refl
others_event P j side op w s (Some r) at e =
    other_if (path_eq r s) (after (w.replica s) op) (w.replica s)
    (false_from_ne_true (path_eq r s)
    (λ h. false≢true (sym e
    ∙ (ap (has_root P) (sym (same_paths r s h)) ∙ has_its_root P side r at))))

others_act : (P : Parts) (j : ℕ) (w : World) (s : Path) (n : Next) → has_root P s ≡ false
    → (act P j w n).replica s ≡ w.replica s
others_act P j w s (Ask side op) e =
    others_event P j side op w s (at_side P.roots side) refl e
others_act P j w s Finished e = refl
others_act P j w s Stopped e = refl

pub others_turns : (Ps : List Parts) (P : Parts) (j n : ℕ) (w : World) (s : Path)
    → slice_get Ps j ≡ Some P → has_root P s ≡ false
    → (after_turns (turn Ps) (replicate n j) w).replica s ≡ w.replica s
unfolding turn
others_turns Ps P j zero w s is e = refl
others_turns Ps P j (suc n) w s is e =
    others_turns Ps P j n (turn_of j w (slice_get Ps j)) s is e
    ∙ (ap (λ o. (turn_of j w o).replica s) is ∙ others_act P j w s (next_for P j w) e)

pub append_turns : {W : Type 0} (step : ℕ → W → W) (xs ys : List ℕ) (w : W)
    → after_turns step (xs ++ ys) w ≡ after_turns step ys (after_turns step xs w)
append_turns step [] ys w = refl
append_turns step (x ∷ xs) ys w = append_turns step xs ys (step x w)
