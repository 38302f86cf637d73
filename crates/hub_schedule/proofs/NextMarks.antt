-- The marks that finished jobs leave in the archives of their pairs.
use Rattle.std.proofs.Common.{◌≡◌, ◌+◌, Bool, true, false, cond, ◌&&◌, ◌||◌, List, [], ◌∷◌, ◌++◌, length, Option, Some, None, refl, ap, sym, ◌∙◌, subst, arith}
use Rattle.std.specs.Prelude.{ℕ, suc, slice_get, find, is_some}
use Rattle.std.specs.List.{list_any, range_with_len}
use Rattle.hub_path.specs.Path.{Path}
use Rattle.hub_profile.specs.Parts.{Parts, some_passes}
use Rattle.hub_reach.specs.Reach.{reach, has_root}
use Rattle.hub_tree.specs.Tree.{Archive, old_mark_at}
use Rattle.hub_tree.specs.declared.contents.Mark.{Mark}
use Rattle.hub_reconcile.specs.Sync.{next_archive}
use Rattle.hub_state.specs.State.{State}
use Rattle.hub_schedule.specs.Next.{NextValue}
use Rattle.hub_job.specs.declared.outcome.Outcome.{Outcome}
use Rattle.hub_job.specs.declared.job_end.JobEnd.{JobEnd}
use Rattle.hub_job.specs.declared.log.Logged.{Logged}
use Rattle.hub_job.specs.Ends.{is_finished}
use Rattle.hub_job.specs.Job.{view_in}
use Rattle.hub_schedule.specs.forms.Left.{mark_of_next, mark_from, leaves_next_archive, one_is_left}
use Rattle.hub_job.specs.Outcome.{archive_of, takes_marks, leaves_archive, mark_for, mark_by}

pub mark_from-append : (ns : List NextValue) (n : NextValue) (r s p : Path) (old : Mark) → mark_from (ns ++ n ∷ []) r s p old ≡ mark_from ns r s p (mark_of_next n.profile n.next r s p old)
mark_from-append [] n r s p old = refl
mark_from-append (m ∷ ns) n r s p old = ap (mark_of_next m.profile m.next r s p) (mark_from-append ns n r s p old)

-- A next archive is that of the job of this number.
pub record IsNextOf (S : State) (Ps : List Parts) (logs : ℕ → List Logged) (o : Outcome) (j : ℕ) (n : NextValue) : Type 0 where
  pub is : slice_get Ps j ≡ Some n.profile
  pub done : some_passes (λ (e : JobEnd). is_finished e.end) (slice_get o.jobs j) ≡ is_some n.next
  pub next : (a : Archive) → n.next ≡ Some a → a ≡ next_archive (view_in n.profile (archive_of S (Some n.profile)) (logs j)) (archive_of S (Some n.profile))

later : (a k : ℕ) → a + suc k ≡ a + 1 + k
later a k = omega arith

first : (a : ℕ) → a + 0 ≡ a
first a = omega arith

-- Some job leaves an archive of the pair.
module _ (S : State) (Ps : List Parts) (logs : ℕ → List Logged) (o : Outcome) (r s : Path) where
  by_next : (P : Parts) (x : Option Archive) → (is_some x && (has_root P r && has_root P s)) ≡ leaves_next_archive P x r s
  by_next P None = refl
  by_next P (Some a) = refl

  leaves : (j : ℕ) (n : NextValue) → IsNextOf S Ps logs o j n → leaves_archive o Ps r s j ≡ leaves_next_archive n.profile n.next r s
  leaves j n is =
      ap (λ b. b && some_passes (λ P. has_root P r && has_root P s) (slice_get Ps j)) is.done
      ∙ (ap (λ x. is_some n.next && some_passes (λ P. has_root P r && has_root P s) x) is.is ∙ by_next n.profile n.next)

  pub some_leaves : (ns : List NextValue) (a : ℕ) → ((k : ℕ) (n : NextValue) → slice_get ns k ≡ Some n → IsNextOf S Ps logs o (a + k) n)
      → one_is_left ns r s ≡ list_any (leaves_archive o Ps r s) (range_with_len a (length ns))
  some_leaves [] a each = refl
  some_leaves (n ∷ ns) a each =
      let here : IsNextOf S Ps logs o a n = subst (λ j. IsNextOf S Ps logs o j n) (first a) (each 0 n refl) in
      let more : one_is_left ns r s ≡ list_any (leaves_archive o Ps r s) (range_with_len (a + 1) (length ns)) =
      some_leaves ns (a + 1) (λ k m e. subst (λ j. IsNextOf S Ps logs o j m) (later a k) (each (suc k) m e)) in
      ap (λ b. b || one_is_left ns r s) (sym (leaves a n here)) ∙ ap (λ b. leaves_archive o Ps r s a || b) more

module _ (S : State) (Ps : List Parts) (logs : ℕ → List Logged) (o : Outcome) (r s p : Path) (old : Mark) where
  abbrev by : Option ℕ → Mark
  by = mark_by S Ps logs p old

  taken : (j : ℕ) (n : NextValue) → IsNextOf S Ps logs o j n → takes_marks o Ps r s p j ≡ (is_some n.next && (has_root n.profile r && has_root n.profile s && reach n.profile p))
  taken j n is =
      ap (λ b. b && some_passes (λ P. has_root P r && has_root P s && reach P p) (slice_get Ps j)) is.done
      ∙ ap (λ x. is_some n.next && some_passes (λ P. has_root P r && has_root P s && reach P p) x) is.is

  -- One job, by whether its marks are taken.
  one : (j : ℕ) (n : NextValue) → IsNextOf S Ps logs o j n → (x : Option Archive) → n.next ≡ x → (b : Bool) → (has_root n.profile r && has_root n.profile s && reach n.profile p) ≡ b → (rest : Option ℕ) (m : Mark) → m ≡ by rest
      → mark_of_next n.profile x r s p m ≡ by (cond (is_some x && b) (Some j) rest)
  one j n is None e b h rest m more = more
  one j n is (Some a) e true h rest m more =
      ap (λ c. cond c (old_mark_at a p) m) h
      ∙ (ap (λ (a : Archive). old_mark_at a p) (is.next a e) ∙ ap (mark_for S logs p old j) (sym is.is))
  one j n is (Some a) e false h rest m more = ap (λ c. cond c (old_mark_at a p) m) h ∙ more

  pub find_marks : (ns : List NextValue) (a : ℕ) → ((k : ℕ) (n : NextValue) → slice_get ns k ≡ Some n → IsNextOf S Ps logs o (a + k) n)
      → mark_from ns r s p old ≡ by (find (takes_marks o Ps r s p) (range_with_len a (length ns)))
  find_marks [] a each = refl
  find_marks (n ∷ ns) a each =
      let here : IsNextOf S Ps logs o a n = subst (λ j. IsNextOf S Ps logs o j n) (first a) (each 0 n refl) in
      let rest = find (takes_marks o Ps r s p) (range_with_len (a + 1) (length ns)) in
      let more : mark_from ns r s p old ≡ by rest = find_marks ns (a + 1) (λ k m e. subst (λ j. IsNextOf S Ps logs o j m) (later a k) (each (suc k) m e)) in
      one a n here n.next refl (has_root n.profile r && has_root n.profile s && reach n.profile p) refl rest (mark_from ns r s p old) more
      ∙ ap (λ b. by (cond b (Some a) rest)) (sym (taken a n here))
