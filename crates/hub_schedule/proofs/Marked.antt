-- What a job leaves to the archive of its pair, and what all of them do, from the last one on.
use Rattle.std.proofs.Common.{◌≡◌, ◌≢◌, Bool, false, cond, ◌||◌, Result, Ok, Err, List, [], ◌∷◌, ◌++◌, length, slice_get, slice_index_or, ap, sym, ◌∙◌, subst}
use Rattle.std.specs.Prelude.{IsTrue, OnOk, is_some, unwrap_or}
use Rattle.std.specs.FinMap as fin
use Rattle.std.proofs.lemmas.List.Folds.{list_any-append}
use Rattle.hub_text.specs.laws.Test.{or-assoc}
use Rattle.hub_text.specs.laws.List.{snoc-new, snoc-old}
use Rattle.hub_path.specs.Path.{Path, is_place}
use Rattle.hub_profile.specs.Parts.{Parts, IsProfile}
use Rattle.hub_reach.specs.Reach.{reach}
use Rattle.hub_tree.specs.Tree.{Archive, old_mark_at}
use Rattle.hub_state.specs.State.{State, archive_at, with_archive}
use Rattle.hub_job.specs.laws.Roots.{two_roots}
use Rattle.hub_schedule.specs.Next.{NextValue}
use Rattle.hub_schedule.specs.forms.Left.{mark_in, mark_given, mark_from, mark_of_next, has_pair, leaves_next_archive, one_is_left, HasArchives, HasMarks, KeepsUnreached, AreKept}
use Rattle.hub_schedule.proofs.NextMarks.{mark_from-append}
use Rattle.hub_schedule.proofs.PairMarks.{put_given, put_there}
use Rattle.hub_schedule.proofs.Places.{left_is, right_is}
use Rattle.hub_schedule.proofs.Promised.{roots_apart}

module _ (P : Parts) (facts : IsProfile P) (rs : List Path) (is : rs ≡ P.roots) where
  -- The two roots are different.
  pub roots_differ : (d e : Path) → slice_index_or rs 0 d ≢ slice_index_or rs 1 e
  roots_differ d e h = roots_apart P facts (sym (left_is P facts rs is d) ∙ h ∙ right_is P facts rs is e)

  pub there_at_roots : (f g : Path) (S : State) (merged : Archive) (T : State) → T ≡ with_archive S (slice_index_or rs 0 f) (slice_index_or rs 1 g) merged → HasArchives (has_pair P) S T
  there_at_roots f g S merged T t =
      let two = two_roots P.roots facts.roots in
      let left : slice_index_or rs 0 f ≡ two.first = ap (λ qs. slice_index_or qs 0 f) (is ∙ two.are) in
      let right : slice_index_or rs 1 g ≡ two.second = ap (λ qs. slice_index_or qs 1 g) (is ∙ two.are) in
      let put : T ≡ with_archive S two.first two.second merged = t ∙ (λ i. with_archive S (left i) (right i) merged) in
      subst (HasArchives (has_pair P) S) (sym put) (put_there P facts two.first two.second two.are S merged)

  pub put_at_roots : (d e f g : Path) (S : State) (next merged current : Archive) → current ≡ unwrap_or (archive_at S (slice_index_or rs 0 d) (slice_index_or rs 1 e)) fin.empty
      → ((p : Path) → old_mark_at merged p ≡ cond (reach P p) (old_mark_at next p) (old_mark_at current p))
      → (T : State) → T ≡ with_archive S (slice_index_or rs 0 f) (slice_index_or rs 1 g) merged → HasMarks (mark_given P next) S T
  put_at_roots d e f g S next merged current now each T t =
      let two = two_roots P.roots facts.roots in
      let left : (x : Path) → slice_index_or rs 0 x ≡ two.first = λ x. ap (λ qs. slice_index_or qs 0 x) (is ∙ two.are) in
      let right : (x : Path) → slice_index_or rs 1 x ≡ two.second = λ x. ap (λ qs. slice_index_or qs 1 x) (is ∙ two.are) in
      let put : T ≡ with_archive S two.first two.second merged = t ∙ (λ i. with_archive S (left f i) (right g i) merged) in
      let old : current ≡ unwrap_or (archive_at S two.first two.second) fin.empty = now ∙ (λ i. unwrap_or (archive_at S (left d i) (right e i)) fin.empty) in
      subst (HasMarks (mark_given P next) S) (sym put)
      (put_given P facts two.first two.second two.are S next merged (λ p. each p ∙ ap (λ (o : Archive). cond (reach P p) (old_mark_at next p) (old_mark_at o p)) old))

pub on_ok : {T E : Type 0} (r : Result T E) (A B : Type 0) → (A → B) → OnOk r A → OnOk r B
on_ok (Ok x) A B f h = f h
on_ok (Err e) A B f h = h

-- The last one goes.
pub kept_last : (all rest : List NextValue) (n : NextValue) → all ≡ rest ++ n ∷ [] → AreKept all → KeepsUnreached n
kept_last all rest n e kept = kept (length rest) n (ap (λ (ns : List NextValue). slice_get ns (length rest)) e ∙ snoc-new rest n)

pub kept_rest : (all rest : List NextValue) (n : NextValue) → all ≡ rest ++ n ∷ [] → AreKept all → AreKept rest
kept_rest all rest n e kept = λ k m h. kept k m (ap (λ (ns : List NextValue). slice_get ns k) e ∙ snoc-old rest n m k h)

pub marks_rest : (all rest : List NextValue) (n : NextValue) (S T : State) → all ≡ rest ++ n ∷ [] → HasMarks (mark_of_next n.profile n.next) S T
    → (r s p : Path) → IsTrue (is_place r) → IsTrue (is_place s) → r ≢ s → mark_from rest r s p (mark_in T r s p) ≡ mark_from all r s p (mark_in S r s p)
marks_rest all rest n S T e h r s p one other off =
    ap (mark_from rest r s p) (h r s p one other off)
    ∙ (sym (mark_from-append rest n r s p (mark_in S r s p)) ∙ ap (λ (ns : List NextValue). mark_from ns r s p (mark_in S r s p)) (sym e))

pub there_rest : (all rest : List NextValue) (n : NextValue) (S T : State) → all ≡ rest ++ n ∷ [] → HasArchives (leaves_next_archive n.profile n.next) S T
    → (r s : Path) → IsTrue (is_place r) → IsTrue (is_place s) → r ≢ s → (one_is_left rest r s || is_some (archive_at T r s)) ≡ (one_is_left all r s || is_some (archive_at S r s))
there_rest all rest n S T e h r s one other off =
    let before : Bool = is_some (archive_at S r s) in
    ap (λ x. one_is_left rest r s || x) (h r s one other off ∙ or-assoc (leaves_next_archive n.profile n.next r s) false before)
    ∙ (or-assoc (one_is_left rest r s) (leaves_next_archive n.profile n.next r s || false) before
    ∙ ap (λ x. x || before)
    (sym (list_any-append (λ (m : NextValue). leaves_next_archive m.profile m.next r s) rest (n ∷ [])) ∙ ap (λ (ns : List NextValue). one_is_left ns r s) (sym e)))
