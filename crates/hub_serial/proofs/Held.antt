-- While a job isn't done, the archive of its pair stays as it is where the job reaches.
use Rattle.std.proofs.Common.{◌≡◌, ◌≢◌, inl, inr, Bool, true, false, cond, List, [], ◌∷◌, Option, Some, None, refl, ap, sym, ◌∙◌, subst}
use Rattle.std.specs.Prelude.{◌==◌, ℕ, suc, slice_get, IsTrue, unwrap_or}
use Rattle.std.proofs.lemmas.Option.{same_Some}
use Rattle.std.proofs.lemmas.Bool.{false≢true, false_from_ne_true}
use borrow.Author.Tests.{eqb-true}
use Rattle.hub_path.specs.Path.{Path}
use Rattle.hub_path.specs.declared.side.Side.{Side}
use Rattle.hub_profile.specs.Parts.{Parts, at_side}
use Rattle.hub_reach.specs.Safe.{IsSafe, Rule}
use Rattle.hub_reach.specs.Reach.{reach}
use Rattle.hub_tree.specs.Tree.{Archive, old_mark_at}
use Rattle.hub_tree.specs.declared.contents.Mark.TheVariants as mark
use Rattle.hub_job.specs.declared.op.Op.{Op}
use Rattle.hub_job.specs.declared.op.Next.{Next}
use Rattle.hub_job.specs.declared.op.Next.TheVariants.{Ask, Finished, Stopped}
use Rattle.hub_reconcile.specs.Items.{items}
use Rattle.hub_job.specs.Job.{next, sights, view_in}
use Rattle.hub_job.specs.Ends.{archive_after}
use Rattle.hub_serial.specs.Schedule.{after_turns}
use Rattle.hub_serial.specs.World.{World, act, archive_for, next_for, event, pair_eq, pair_of, turn, turn_of}
use Rattle.hub_serial.specs.Clash.{AreProfiles, JobsClash, NoneClashesWith}
use Rattle.hub_serial.proofs.Traces.{itself}
use Rattle.hub_serial.proofs.OldMarks.{SameReached, after_alike, items_alike, kept_by_other, next_alike}
use Rattle.hub_serial.proofs.Commute.{AreApart, same_pair}
use Rattle.hub_serial.proofs.Exchange.{are_apart}

-- In a safe set jobs overlap in time as they like.
pub safe_interleave : (Ps : List Parts) (Rs : List Rule) → IsSafe Ps Rs → (i k : ℕ) → k ≢ i → JobsClash Ps i k → ⊥
safe_interleave Ps Rs safe i k off (P, Q, p, q, inl clash) = safe.no_clash i k P Q p q (λ e. off (sym e)) clash
safe_interleave Ps Rs safe i k off (P, Q, p, q, inr clash) = safe.no_clash k i Q P q p off clash

same_through : (P : Parts) (O N M : Archive) → SameReached P O N → SameReached P N M → SameReached P O M
same_through P O N M a b q h = a q h ∙ b q h

at_event : (P Q : Parts) (k : ℕ) (side : Side) (op : Op) (w : World) (o : Option Path) → SameReached P (archive_for P w) (archive_for P (event Q k side op w o))
at_event P Q k side op w None q h = refl
at_event P Q k side op w (Some r) q h = refl

kept_at : (P Q : Parts) → AreApart P Q → (k : ℕ) (w : World) (b : Bool) → pair_eq (pair_of Q) (pair_of P) ≡ b
    → SameReached P (archive_for P w) (cond b (archive_after Q (archive_for P w) (w.log k)) (archive_for P w))
kept_at P Q apart k w true e q h = sym (kept_by_other P Q (apart.marks (sym (same_pair (pair_of Q) (pair_of P) e))) (archive_for P w) (w.log k) q h)
kept_at P Q apart k w false e q h = refl

other_act : (P Q : Parts) → AreApart P Q → (k : ℕ) (w : World) (n : Next) → SameReached P (archive_for P w) (archive_for P (act Q k w n))
other_act P Q apart k w (Ask side op) = at_event P Q k side op w (at_side Q.roots side)
other_act P Q apart k w Finished = kept_at P Q apart k w (pair_eq (pair_of Q) (pair_of P)) refl
other_act P Q apart k w Stopped = λ q h. refl

own_act : (P : Parts) (j : ℕ) (w : World) (n : Next) → (act P j w n).done j ≡ false → SameReached P (archive_for P w) (archive_for P (act P j w n))
own_act P j w (Ask side op) d = at_event P P j side op w (at_side P.roots side)
own_act P j w Finished d = absurd (false≢true (sym d ∙ ap (λ b. cond b true (w.done j)) (itself j)))
own_act P j w Stopped d = λ q h. refl

-- A job that is done stays so.
done_event : (Q : Parts) (k : ℕ) (side : Side) (op : Op) (w : World) (o : Option Path) (j : ℕ) → w.done j ≡ true → (event Q k side op w o).done j ≡ true
done_event Q k side op w None j d = d
done_event Q k side op w (Some r) j d = d

true_if : (b c : Bool) → c ≡ true → cond b true c ≡ true
true_if true c e = refl
true_if false c e = e

done_act : (Q : Parts) (k : ℕ) (w : World) (n : Next) (j : ℕ) → w.done j ≡ true → (act Q k w n).done j ≡ true
done_act Q k w (Ask side op) j d = done_event Q k side op w (at_side Q.roots side) j d
done_act Q k w Finished j d = true_if (j == k) (w.done j) d
done_act Q k w Stopped j d = d

done_turn_of : (k : ℕ) (w : World) (o : Option Parts) (j : ℕ) → w.done j ≡ true → (turn_of k w o).done j ≡ true
done_turn_of k w None j d = d
done_turn_of k w (Some Q) j d = done_act Q k w (next_for Q k w) j d

done_turns : (Ps : List Parts) (js : List ℕ) (w : World) (j : ℕ) → w.done j ≡ true → (after_turns (turn Ps) js w).done j ≡ true
unfolding turn
done_turns Ps [] w j d = d
done_turns Ps (k ∷ js) w j d = done_turns Ps js (turn_of k w (slice_get Ps k)) j (done_turn_of k w (slice_get Ps k) j d)

not_yet : (Ps : List Parts) (js : List ℕ) (w : World) (j : ℕ) → (after_turns (turn Ps) js w).done j ≡ false → w.done j ≡ false
not_yet Ps js w j d = false_from_ne_true (w.done j) (λ e. false≢true (sym d ∙ done_turns Ps js w j e))

module _ (Ps : List Parts) (facts : AreProfiles Ps) (P : Parts) (j : ℕ) (is : slice_get Ps j ≡ Some P) where
  step_other : (k : ℕ) (w : World) (o : Option Parts) → slice_get Ps k ≡ o → (JobsClash Ps j k → ⊥) → SameReached P (archive_for P w) (archive_for P (turn_of k w o))
  step_other k w None e free = λ q h. refl
  step_other k w (Some Q) e free = other_act P Q (are_apart P Q (facts j P is) (facts k Q e) (λ clash. free (P, Q, is, e, clash))) k w (next_for Q k w)

  step_own : (w : World) (o : Option Parts) → slice_get Ps j ≡ o → o ≡ Some P → (turn_of j w o).done j ≡ false → SameReached P (archive_for P w) (archive_for P (turn_of j w o))
  step_own w None e f d = λ q h. refl
  step_own w (Some Q) e f d =
      let same : Q ≡ P = same_Some Q P f in
      subst (λ R. SameReached P (archive_for P w) (archive_for P (turn_of j w (Some R)))) (sym same)
      (own_act P j w (next_for P j w) (ap (λ R. (turn_of j w (Some R)).done j) (sym same) ∙ d))

  step_by : (k : ℕ) (w : World) (b : Bool) → (k == j) ≡ b → (k ≢ j → JobsClash Ps j k → ⊥) → (turn_of k w (slice_get Ps k)).done j ≡ false
      → SameReached P (archive_for P w) (archive_for P (turn_of k w (slice_get Ps k)))
  step_by k w true e free d =
      subst (λ i. (turn_of i w (slice_get Ps i)).done j ≡ false → SameReached P (archive_for P w) (archive_for P (turn_of i w (slice_get Ps i)))) (sym (eqb-true k j e))
      (step_own w (slice_get Ps j) refl is) d
  step_by k w false e free d = step_other k w (slice_get Ps k) refl (free (λ h. false≢true (sym e ∙ (ap (λ x. x == j) h ∙ itself j))))

  pub archive_held : (js : List ℕ) (w : World) → NoneClashesWith Ps j js → (after_turns (turn Ps) js w).done j ≡ false
      → SameReached P (archive_for P w) (archive_for P (after_turns (turn Ps) js w))
  unfolding turn
  archive_held [] w free d = λ q h. refl
  archive_held (k ∷ js) w free d =
      let v = turn_of k w (slice_get Ps k) in
      same_through P (archive_for P w) (archive_for P v) (archive_for P (after_turns (turn Ps) js v))
      (step_by k w (k == j) refl (free 0 k refl) (not_yet Ps js v j d))
      (archive_held js v (λ c i e. free (suc c) i e) d)

  pub items_by_its_start : (js : List ℕ) (w : World) → NoneClashesWith Ps j js → (after_turns (turn Ps) js w).done j ≡ false
      → items (view_in P (archive_for P w) ((after_turns (turn Ps) js w).log j)) ≡ items (view_in P (archive_for P (after_turns (turn Ps) js w)) ((after_turns (turn Ps) js w).log j))
  items_by_its_start js w free d =
      items_alike P (archive_for P w) (archive_for P (after_turns (turn Ps) js w)) (archive_held js w free d) (sights ((after_turns (turn Ps) js w).log j))

  pub marks_by_its_start : (js : List ℕ) (w : World) → NoneClashesWith Ps j js → (after_turns (turn Ps) js w).done j ≡ false
      → (q : Path) → IsTrue (reach P q)
      → old_mark_at (archive_after P (archive_for P w) ((after_turns (turn Ps) js w).log j)) q ≡ old_mark_at (archive_after P (archive_for P (after_turns (turn Ps) js w)) ((after_turns (turn Ps) js w).log j)) q
  marks_by_its_start js w free d q h =
      ap (λ o. unwrap_or o mark.Absent)
      (after_alike P (archive_for P w) (archive_for P (after_turns (turn Ps) js w)) (archive_held js w free d) ((after_turns (turn Ps) js w).log j) q h)

  pub asks_by_its_start : (js : List ℕ) (w : World) → NoneClashesWith Ps j js → (after_turns (turn Ps) js w).done j ≡ false
      → next P (archive_for P w) ((after_turns (turn Ps) js w).log j) ≡ next P (archive_for P (after_turns (turn Ps) js w)) ((after_turns (turn Ps) js w).log j)
  asks_by_its_start js w free d =
      next_alike P (archive_for P w) (archive_for P (after_turns (turn Ps) js w)) (archive_held js w free d) ((after_turns (turn Ps) js w).log j)
