-- Turns and edits that needn't keep their order can be exchanged.
use Rattle.std.proofs.Common.{◌≡◌, ◌≢◌, ◌<◌, inl, inr, Bool, true, false, cond, List, length, Option, Some, None, refl, ap, sym, ◌∙◌, subst}
use Rattle.std.specs.Prelude.{ℕ, IsTrue, slice_get}
use Rattle.std.proofs.lemmas.Bool.{false_from_ne_true}
use Rattle.hub_path.specs.Path.{Path, path_eq}
use Rattle.hub_path.specs.declared.side.Side.{Side}
use Rattle.hub_profile.specs.Parts.{Parts, at_side}
use Rattle.hub_reach.specs.Reach.{has_root}
use Rattle.hub_tree.specs.Tree.{Replica, contents_at, set_fault, with_contents}
use Rattle.hub_tree.specs.declared.contents.Contents.{Contents}
use Rattle.hub_reconcile.specs.laws.Views.{same_paths}
use Rattle.hub_reconcile.specs.Sync.{root_or_top}
use Rattle.hub_tree.specs.declared.fault.SetFault.{SetFault}
use Rattle.hub_job.specs.declared.op.Op.{Op}
use Rattle.hub_job.specs.declared.op.Op.TheVariants.{Look, Fetch, Set}
use Rattle.hub_job.specs.declared.op.Next.{Next}
use Rattle.hub_job.specs.declared.op.Next.TheVariants.{Ask, Finished, Stopped}
use Rattle.hub_job.specs.Alike.{Alike, Depends, May}
use Rattle.hub_job.specs.Machine.{answer, after, changed_unless}
use Rattle.hub_job.specs.Run.{root_at}
use Rattle.hub_job.specs.Same.{AsksMay}
use Rattle.hub_job.specs.laws.Roots.{has_its_root}
use Rattle.hub_job.specs.laws.Untouched.{SetsOne, passes-itself, write-reaches}
use Rattle.hub_serial.specs.World.{World, act, next_for, event, with_entry}
use Rattle.hub_serial.specs.Edits.{Actor, AreActors, ActorsClash, IsActor, MustKeepOrder, with_edit, actor_turn, actor_turn_of}
use Rattle.hub_serial.specs.Edits.Actor.{Job, Edit}
use Rattle.hub_serial.proofs.Commute.{AnswersAlike, OthersAlike, acts_commute, asks_by, by_answer, contents_commute, fault_alike}
use Rattle.hub_serial.proofs.Exchange.{are_apart}

-- An edit of a path that a job's answers don't depend on.
edit_alike : SetsOne → (P : Parts) (r p : Path) (c : Contents) (m : Replica) → 0 < length p → (Depends P r p → ⊥) → Alike P r (with_contents m p c) m
edit_alike sets P r p c m l free q depends =
    sets m p q c l ∙ ap (λ b. cond b c (contents_at m q)) (false_from_ne_true (path_eq q p) (λ e. free (subst (Depends P r) (same_paths q p e) depends)))

set_through : (o : Option SetFault) (m : Replica) (p q : Path) (c d : Contents) → (q ≡ p → ⊥)
    → changed_unless o (with_contents m p c) (with_contents (with_contents m p c) q d) ≡ with_contents (changed_unless o m (with_contents m q d)) p c
set_through None m p q c d off = contents_commute m q p d c off
set_through (Some f) m p q c d off = refl

op_through : AnswersAlike → SetsOne → (P : Parts) (r p : Path) (c : Contents) (m : Replica) (op : Op) → 0 < length p → (Depends P r p → ⊥) → May P r op
    → after (with_contents m p c) op ≡ with_contents (after m op) p c
unfolding after
op_through answers sets P r p c m (Look d) l free may = refl
op_through answers sets P r p c m (Fetch d) l free may = refl
op_through answers sets P r p c m (Set q d) l free may =
    by_answer (set_fault (with_contents m p c) q d) (set_fault m q d) (with_contents m p c) (with_contents (with_contents m p c) q d)
    (fault_alike answers P r (with_contents m p c) m q d (edit_alike sets P r p c m l free) may)
    ∙ set_through (set_fault m q d) m p q c d (λ e. free (subst (Depends P r) e (inl (passes-itself P q (write-reaches P r q may)))))

module _ (answers : AnswersAlike) (sets : SetsOne) (P : Parts) (j : ℕ) (r p : Path) (c : Contents) (l : 0 < length p) (free : IsTrue (has_root P r) → Depends P r p → ⊥) where
  root_by : (s t : Path) (m : Replica) (op : Op) (x y : Bool) → path_eq s t ≡ x → path_eq r t ≡ y → IsTrue (has_root P s) → May P s op
      → cond x (after (cond y (with_contents m p c) m) op) (cond y (with_contents m p c) m) ≡ cond y (with_contents (cond x (after m op) m) p c) (cond x (after m op) m)
  root_by s t m op true true e f h may =
      let es : s ≡ t = same_paths s t e in
      let er : r ≡ t = same_paths r t f in
      let same : s ≡ r = es ∙ sym er in
      op_through answers sets P r p c m op l (free (subst (λ x. IsTrue (has_root P x)) same h)) (subst (λ x. May P x op) same may)
  root_by s t m op true false e f h may = refl
  root_by s t m op false true e f h may = refl
  root_by s t m op false false e f h may = refl

  answer_by : (s : Path) (m : Replica) (op : Op) (y : Bool) → path_eq r s ≡ y → IsTrue (has_root P s) → May P s op → answer (cond y (with_contents m p c) m) P s op ≡ answer m P s op
  answer_by s m op true f h may =
      let same : r ≡ s = same_paths r s f in
      answers P s (with_contents m p c) m op
      (subst (λ x. Alike P x (with_contents m p c) m) same (edit_alike sets P r p c m l (free (subst (λ x. IsTrue (has_root P x)) (sym same) h)))) may
  answer_by s m op false f h may = refl

  event_edit : (side : Side) (op : Op) (w : World) (o : Option Path) → at_side P.roots side ≡ o → ((s : Path) → o ≡ Some s → May P s op)
      → event P j side op (with_edit r p c w) o ≡ with_edit r p c (event P j side op w o)
  event_edit side op w None e may = refl
  event_edit side op w (Some s) e may =
      let at : root_at P side ≡ s = ap root_or_top e in
      let h : IsTrue (has_root P (root_at P side)) = subst (λ x. IsTrue (has_root P x)) (sym at) (has_its_root P side s e) in
      let a = answer_by (root_at P side) (w.replica (root_at P side)) op (path_eq r (root_at P side)) refl h (subst (λ x. May P x op) (sym at) (may s refl)) in
      λ z. record {
        replica = λ t. root_by s t (w.replica t) op (path_eq s t) (path_eq r t) refl refl (has_its_root P side s e) (may s refl) z;
        archive = w.archive;
        log = with_entry w.log j (record { side = side; step = record { job = j; op = op; answer = a z } });
        done = w.done;
        items = w.items;
      }

  act_edit : AsksMay → (w : World) (n : Next) → next_for P j w ≡ n → act P j (with_edit r p c w) n ≡ with_edit r p c (act P j w n)
  act_edit asks w (Ask side op) e = event_edit side op w (at_side P.roots side) refl (λ s h. asks_by asks P j w side op s (w.done j) e h)
  act_edit asks w Finished e = refl
  act_edit asks w Stopped e = refl

edits_by : (r s : Path) (p q : Path) (c d : Contents) (t : Path) (m : Replica) (x y : Bool) → path_eq r t ≡ x → path_eq s t ≡ y → ((r ≡ s) × (p ≡ q) → ⊥)
    → cond x (with_contents (cond y (with_contents m q d) m) p c) (cond y (with_contents m q d) m) ≡ cond y (with_contents (cond x (with_contents m p c) m) q d) (cond x (with_contents m p c) m)
edits_by r s p q c d t m true true e f free = contents_commute m p q c d (λ same. free (same_paths r t e ∙ sym (same_paths s t f), same))
edits_by r s p q c d t m true false e f free = refl
edits_by r s p q c d t m false true e f free = refl
edits_by r s p q c d t m false false e f free = refl

both_edits : (r s : Path) (p q : Path) (c d : Contents) (w : World) → ((r ≡ s) × (p ≡ q) → ⊥) → with_edit r p c (with_edit s q d w) ≡ with_edit s q d (with_edit r p c w)
both_edits r s p q c d w free z = record {
  replica = λ t. edits_by r s p q c d t (w.replica t) (path_eq r t) (path_eq s t) refl refl free z;
  archive = w.archive;
  log = w.log;
  done = w.done;
  items = w.items;
}

module _ (asks : AsksMay) (answers : AnswersAlike) (others : OthersAlike) (sets : SetsOne) where
  two_by : (i k : ℕ) (a b : Actor) (w : World) → i ≢ k → IsActor a → IsActor b → (MustKeepOrder a b → ⊥)
      → actor_turn_of i (actor_turn_of k w (Some b)) (Some a) ≡ actor_turn_of k (actor_turn_of i w (Some a)) (Some b)
  two_by i k (Job P) (Job Q) w off x y free = acts_commute asks answers others P Q (are_apart P Q x y free) i k off w
  two_by i k (Job P) (Edit r p c) w off x y free = act_edit answers sets P i r p c y (λ h d. free (h, d)) asks w (next_for P i w) refl
  two_by i k (Edit r p c) (Job P) w off x y free = sym (act_edit answers sets P k r p c x (λ h d. free (h, d)) asks w (next_for P k w) refl)
  two_by i k (Edit r p c) (Edit s q d) w off x y free = both_edits r s p q c d w free

  steps_by : (As : List Actor) (facts : AreActors As) (i k : ℕ) (w : World) (o u : Option Actor) → slice_get As i ≡ o → slice_get As k ≡ u → i ≢ k → (ActorsClash As i k → ⊥)
      → actor_turn_of i (actor_turn_of k w u) o ≡ actor_turn_of k (actor_turn_of i w o) u
  steps_by As facts i k w None u e f off free = refl
  steps_by As facts i k w (Some (Job P)) None e f off free = refl
  steps_by As facts i k w (Some (Edit r p c)) None e f off free = refl
  steps_by As facts i k w (Some a) (Some b) e f off free = two_by i k a b w off (facts i a e) (facts k b f) (λ h. free (a, b, e, f, h))

  pub steps_commute : (As : List Actor) (facts : AreActors As) (i k : ℕ) (w : World) → i ≢ k → (ActorsClash As i k → ⊥) → actor_turn As i (actor_turn As k w) ≡ actor_turn As k (actor_turn As i w)
  unfolding actor_turn
  steps_commute As facts i k w off free = steps_by As facts i k w (slice_get As i) (slice_get As k) refl refl off free

kept_turned : (a b : Actor) → MustKeepOrder a b → MustKeepOrder b a
kept_turned (Job P) (Job Q) (inl h) = inr h
kept_turned (Job P) (Job Q) (inr h) = inl h
kept_turned (Job P) (Edit r p c) h = h
kept_turned (Edit r p c) (Job P) h = h
kept_turned (Edit r p c) (Edit s q d) h = (sym h.0, sym h.1)

pub actors_turned : (As : List Actor) (i k : ℕ) → ActorsClash As i k → ActorsClash As k i
actors_turned As i k (a, b, e, f, h) = (b, a, f, e, kept_turned a b h)
