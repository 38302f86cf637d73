-- Marks of jobs that don't clash, in the archive of a pair of roots.
use Rattle.std.proofs.Common.{◌≡◌, ◌≢◌, ◌⊎◌, inl, inr, Bool, true, false, cond, not, ◌&&◌, ◌||◌, List, [], ◌∷◌, ◌++◌, length, map, Option, Some, None, refl, ap, sym, ◌∙◌, subst}
use Rattle.std.specs.Prelude.{◌==◌, ◌<◌, ℕ, filter, fold, slice_get, IsTrue}
use Rattle.std.proofs.lemmas.Bool.{false≢true, and_parts, false_from_ne_true, not-true, or_cases}
use Rattle.std.proofs.lemmas.List.Elements.{filter-append}
use borrow.Author.Tests.{eqb-true}
use Rattle.std.specs.FinMap as fin
use Rattle.std.specs.Ordering.{eq_by_cmp}
use Rattle.hub_path.specs.declared.side.Side.TheVariants.{Left, Right}
use Rattle.hub_path.specs.Path.{Path, is_place, ascending, path_cmp}
use Rattle.hub_path.specs.laws.General.{is_over-reflexive}
use Rattle.hub_profile.specs.Parts.{IsProfile, Parts, some_passes}
use Rattle.hub_reach.specs.Reach.{reach}
use Rattle.hub_reach.specs.laws.General.{passing, reach-is_path}
use Rattle.hub_reach.specs.Safe.{share_archive}
use Rattle.hub_tree.specs.Tree.{Archive, IsArchive, kept_mark, old_mark_at, with_mark}
use Rattle.hub_tree.specs.declared.contents.Mark.{Mark}
use Rattle.hub_tree.specs.declared.contents.Mark.TheVariants as mark
use Rattle.hub_tree.specs.laws.Order.{path_total, same_path}
use Rattle.hub_tree.specs.laws.Contented.{some_names}
use Rattle.hub_tree.specs.laws.MarkMaps.{IsArchive-after}
use Rattle.hub_reconcile.specs.Sync.{fate_over, mark_under, next_archive, synced_mark}
use Rattle.hub_reconcile.specs.Sight.{Sight}
use Rattle.hub_reconcile.specs.View.{View, counts, is_present}
use Rattle.hub_reconcile.specs.laws.Archived.{archived_by}
use Rattle.hub_job.specs.Ends.{archive_after}
use Rattle.hub_job.specs.Job.{sights, view_in}
use Rattle.hub_job.specs.declared.log.Logged.{Logged}
use Rattle.hub_serial.specs.Clash.{AreProfiles, JobsClash}
use Rattle.hub_serial.specs.RunRecord.{RunRecord, archives_after_ends, with_marks_by, with_marks_of}
use Rattle.hub_serial.specs.Schedule.{AreEquivalent}
use Rattle.hub_serial.specs.World.{RootPair, pair_eq, pair_of}
use Rattle.hub_starter.proofs.Numbers.{Distinct, has, has_here, has_later}
use Rattle.hub_starter.proofs.Pairs.{same_pair, shares_archive}

-- The archive after a job has its old marks where the job doesn't reach.
unreached_by : (V : View) (b : Bool) (q : Path) → b ≡ false
    → cond b (mark_under V q (fate_over V q)) (V.old q) ≡ V.old q
unreached_by V true q e = absurd (false≢true (sym e))
unreached_by V false q e = refl

pub unreached : (P : Parts) (O : Archive) (log : List Logged) (q : Path) → reach P q ≡ false
    → old_mark_at (archive_after P O log) q ≡ old_mark_at O q
unreached P O log q e =
    archived_by P O (sights log) q ∙ unreached_by (view_in P O log) (reach P q) q e

-- So it keeps there what it kept.
get-with_mark : (a : Archive) (p q : Path) (m : Mark)
    → fin.get (with_mark a p m) q ≡ cond (eq_by_cmp path_cmp q p) (kept_mark m) (fin.get a q)
get-with_mark a p q (mark.File d) = fin.get-insert path_total a p (mark.File d) q
get-with_mark a p q mark.Directory = fin.get-insert path_total a p mark.Directory q
get-with_mark a p q mark.Absent = fin.get-remove path_total a p q

unmarked : (f : Path → Mark) (t : Path → Bool) (ps : List Path) (O : Archive) (q : Path)
    → t q ≡ false
    → fin.get (fold (λ a p. with_mark a p (f p)) O (filter t ps)) q ≡ fin.get O q
unmarked f t [] O q off = refl
unmarked f t (p ∷ ps) O q off =
    elim (t p) as (λ b. t p ≡ b
    → fin.get (fold (λ a p. with_mark a p (f p)) O (cond b (p ∷ filter t ps) (filter t ps))) q
    ≡ fin.get O q) [
      | true ↦ λ e. unmarked f t ps (with_mark O p (f p)) q off
          ∙ (get-with_mark O p q (f p)
          ∙ ap (λ b. cond b (kept_mark (f p)) (fin.get O q))
          (false_from_ne_true (eq_by_cmp path_cmp q p)
          (λ same. false≢true (sym off ∙ (ap t (same_path q p same) ∙ e)))))
      | false ↦ λ e. unmarked f t ps O q off
    ] refl

pub untouched : (P : Parts) (O : Archive) (log : List Logged) (q : Path) → reach P q ≡ false
    → fin.get (archive_after P O log) q ≡ fin.get O q
unfolding next_archive
untouched P O log q off =
    let V = view_in P O log in
    unmarked (synced_mark V) (counts (reach P) V.mark V.old)
    (ascending (map (λ (s : Path × Sight). s.0) (sights log Left)
    ++ map (λ (s : Path × Sight). s.0) (sights log Right) ++ fin.keys O)) O q
    (ap (λ b. b && (is_present (V.mark Left q) || is_present (V.mark Right q) || is_present (V.old q)))
    off)

-- It is an archive.
marked_archive : (f : Path → Mark) (t : Path → Bool) (ps : List Path) (O : Archive)
    → ((p : Path) → t p ≡ true → 0 < length p) → IsArchive O
    → IsArchive (fold (λ a p. with_mark a p (f p)) O (filter t ps))
marked_archive f t [] O names is = is
marked_archive f t (p ∷ ps) O names is =
    elim (t p) as (λ b. t p ≡ b
    → IsArchive (fold (λ a p. with_mark a p (f p)) O (cond b (p ∷ filter t ps) (filter t ps)))) [
      | true ↦ λ e. marked_archive f t ps (with_mark O p (f p)) names
          (IsArchive-after O p (f p) (names p e) is)
      | false ↦ λ e. marked_archive f t ps O names is
    ] refl

reached_names : (P : Parts) (p : Path) → reach P p ≡ true → 0 < length p
reached_names P p h =
    some_names p (not-true (length p == 0) (and_parts (not (length p == 0)) (is_place p)
    (reach-is_path P p h)).0)

pub after_is_archive : (P : Parts) (O : Archive) (log : List Logged) → IsArchive O
    → IsArchive (archive_after P O log)
unfolding next_archive
after_is_archive P O log is =
    let V = view_in P O log in
    marked_archive (synced_mark V) (counts (reach P) V.mark V.old)
    (ascending (map (λ (s : Path × Sight). s.0) (sights log Left)
    ++ map (λ (s : Path × Sight). s.0) (sights log Right) ++ fin.keys O)) O
    (λ p e. reached_names P p (and_parts (reach P p)
    (is_present (V.mark Left p) || is_present (V.mark Right p) || is_present (V.old p)) e).0) is

-- Whether a job of the pair reaches the path.
abbrev pub takes : List Parts → RootPair → Path → ℕ → Bool
takes Ps k p j = some_passes (λ P. pair_eq (pair_of P) k && reach P p) (slice_get Ps j)

module _ (Ps : List Parts) (R : RunRecord) where
  kept_by : (k : RootPair) (p : Path) (j : ℕ) (A : RootPair → Archive) (o : Option Parts)
      → some_passes (λ P. pair_eq (pair_of P) k && reach P p) o ≡ false
      → old_mark_at (with_marks_by A (R.log j) o k) p ≡ old_mark_at (A k) p
  kept_by k p j A None e = refl
  kept_by k p j A (Some P) e =
      elim (pair_eq (pair_of P) k) as (λ b. (b && reach P p) ≡ false
      → old_mark_at (cond b (archive_after P (A k) (R.log j)) (A k)) p ≡ old_mark_at (A k) p) [
        | true ↦ λ h. unreached P (A k) (R.log j) p h
        | false ↦ λ h. refl
      ] e

  -- Ends of jobs that don't take the path leave its mark.
  pub kept_marks : (k : RootPair) (p : Path) (L : List ℕ) (A : RootPair → Archive)
      → ((j : ℕ) → has j L ≡ true → takes Ps k p j ≡ false)
      → old_mark_at (archives_after_ends Ps R L A k) p ≡ old_mark_at (A k) p
  kept_marks k p [] A none = refl
  kept_marks k p (j ∷ L) A none =
      kept_marks k p L (with_marks_of Ps R j A) (λ l h. none l (has_later l j L h))
      ∙ kept_by k p j A (slice_get Ps j) (none j (has_here j L))

  archive_by : (k : RootPair) (j : ℕ) (A : RootPair → Archive) (o : Option Parts)
      → IsArchive (A k) → IsArchive (with_marks_by A (R.log j) o k)
  archive_by k j A None is = is
  archive_by k j A (Some P) is =
      elim (pair_eq (pair_of P) k) as
      (λ b. IsArchive (cond b (archive_after P (A k) (R.log j)) (A k))) [
        | true ↦ after_is_archive P (A k) (R.log j) is
        | false ↦ is
      ]

  pub ends_are_archives : (k : RootPair) (L : List ℕ) (A : RootPair → Archive) → IsArchive (A k)
      → IsArchive (archives_after_ends Ps R L A k)
  ends_are_archives k [] A is = is
  ends_are_archives k (j ∷ L) A is =
      ends_are_archives k L (with_marks_of Ps R j A) (archive_by k j A (slice_get Ps j) is)

  -- No archive changes that is of no job's pair.
  other_by : (k : RootPair) (j : ℕ) (A : RootPair → Archive) (o : Option Parts)
      → ((P : Parts) → o ≡ Some P → pair_eq (pair_of P) k ≡ false)
      → with_marks_by A (R.log j) o k ≡ A k
  other_by k j A None off = refl
  other_by k j A (Some P) off =
      ap (λ b. cond b (archive_after P (A k) (R.log j)) (A k)) (off P refl)

  pub other_archives : (k : RootPair) (L : List ℕ) (A : RootPair → Archive)
      → ((j : ℕ) (P : Parts) → slice_get Ps j ≡ Some P → pair_eq (pair_of P) k ≡ false)
      → archives_after_ends Ps R L A k ≡ A k
  other_archives k [] A off = refl
  other_archives k (j ∷ L) A off =
      other_archives k L (with_marks_of Ps R j A) off
      ∙ other_by k j A (slice_get Ps j) (λ P is. off j P is)

-- Only the jobs of the pair change its archive.
abbrev pub of_pair : List Parts → RootPair → ℕ → Bool
of_pair Ps k j = some_passes (λ P. pair_eq (pair_of P) k) (slice_get Ps j)

pub taken_of_pair : (Ps : List Parts) (k : RootPair) (p : Path) (j : ℕ) → takes Ps k p j ≡ true
    → of_pair Ps k j ≡ true
taken_of_pair Ps k p j e =
    let P = passing (λ (P : Parts). pair_eq (pair_of P) k && reach P p) (slice_get Ps j) e in
    ap (some_passes (λ (Q : Parts). pair_eq (pair_of Q) k)) P.1
    ∙ (and_parts (pair_eq (pair_of P.0) k) (reach P.0 p) P.2).0

module _ (Ps : List Parts) (R : RunRecord) (k : RootPair) where
  same_by : (j : ℕ) (A B : RootPair → Archive) (o : Option Parts) → A k ≡ B k
      → with_marks_by A (R.log j) o k ≡ with_marks_by B (R.log j) o k
  same_by j A B None e = e
  same_by j A B (Some P) e =
      λ i. cond (pair_eq (pair_of P) k) (archive_after P (e i) (R.log j)) (e i)

  kept_off : (j : ℕ) (A : RootPair → Archive) (o : Option Parts)
      → some_passes (λ P. pair_eq (pair_of P) k) o ≡ false → with_marks_by A (R.log j) o k ≡ A k
  kept_off j A None off = refl
  kept_off j A (Some P) off = ap (λ b. cond b (archive_after P (A k) (R.log j)) (A k)) off

  pub of_its_pair : (L : List ℕ) (A B : RootPair → Archive) → A k ≡ B k
      → archives_after_ends Ps R L A k ≡ archives_after_ends Ps R (filter (of_pair Ps k) L) B k
  of_its_pair [] A B e = e
  of_its_pair (j ∷ L) A B e =
      elim (of_pair Ps k j) as (λ b. of_pair Ps k j ≡ b
      → archives_after_ends Ps R L (with_marks_of Ps R j A) k
      ≡ archives_after_ends Ps R (cond b (j ∷ filter (of_pair Ps k) L) (filter (of_pair Ps k) L)) B k) [
        | true ↦ λ f. of_its_pair L (with_marks_of Ps R j A) (with_marks_of Ps R j B)
            (same_by j A B (slice_get Ps j) e)
        | false ↦ λ f. of_its_pair L (with_marks_of Ps R j A) B (kept_off j A (slice_get Ps j) f ∙ e)
      ] refl

-- Two jobs that take the same path clash.
shared_by : (P Q : Parts) (k : RootPair) → IsProfile P → IsProfile Q → pair_of P ≡ k
    → pair_of Q ≡ k → IsTrue (share_archive P Q)
shared_by P Q k one two e f =
    shares_archive P Q one two (e ∙ sym f)

pub both_take : (Ps : List Parts) → AreProfiles Ps → (k : RootPair) (p : Path) (i j : ℕ)
    → takes Ps k p i ≡ true → takes Ps k p j ≡ true → JobsClash Ps i j
both_take Ps facts k p i j h g =
    let t : Parts → Bool = λ P. pair_eq (pair_of P) k && reach P p in
    let P = passing t (slice_get Ps i) h in
    let Q = passing t (slice_get Ps j) g in
    let one = and_parts (pair_eq (pair_of P.0) k) (reach P.0 p) P.2 in
    let two = and_parts (pair_eq (pair_of Q.0) k) (reach Q.0 p) Q.2 in
    let share = shared_by P.0 Q.0 k (facts i P.0 P.1) (facts j Q.0 Q.1)
    (same_pair (pair_of P.0) k one.0) (same_pair (pair_of Q.0) k two.0) in
    (P.0, Q.0, P.1, Q.1, inl (inr (share, (p, p, is_over-reflexive p, one.1, two.1))))

-- A job among others, of which none clash, may end first.
abbrev pub Cut : ℕ → List ℕ → Type 0
Cut j L = (front : List ℕ) × (rest : List ℕ) × (L ≡ front ++ j ∷ rest) × (has j front ≡ false)
    × (has j rest ≡ false)

pub cut_at : (j : ℕ) (L : List ℕ) → Distinct L → has j L ≡ true → Cut j L
cut_at j [] d h = absurd (false≢true h)
cut_at j (x ∷ L) d h =
    elim (x == j) as (λ b. (x == j) ≡ b → (b || has j L) ≡ true → Cut j (x ∷ L)) [
      | true ↦ λ e g.
          let same = eqb-true x j e in
          ([], L, ap (λ y. y ∷ L) same, refl, subst (λ y. has y L ≡ false) same d.0)
      | false ↦ λ e g.
          let w = cut_at j L d.1 g in
          (x ∷ w.0, w.1, ap (λ ys. x ∷ ys) w.2, ap (λ b. b || has j w.0) e ∙ w.3, w.4)
    ] refl h

none_of : (t : ℕ → Bool) (xs : List ℕ) → ((y : ℕ) → has y xs ≡ true → t y ≡ false)
    → filter t xs ≡ []
none_of t [] never = refl
none_of t (x ∷ xs) never =
    ap (λ b. cond b (x ∷ filter t xs) (filter t xs)) (never x (has_here x xs))
    ∙ none_of t xs (λ y h. never y (has_later y x xs h))

one_of : (i k t : ℕ) → (t == i || t == k) ≡ true → (t ≡ i) ⊎ (t ≡ k)
one_of i k t h =
    elim (or_cases (t == i) (t == k) h) [
      | inl e ↦ inl (eqb-true t i e)
      | inr e ↦ inr (eqb-true t k e)
    ]

module _ (Clashes : ℕ → ℕ → Type 0) where
  both_of : (i k x y : ℕ) → (i ≡ k) ⊎ Clashes i k → (x ≡ i) ⊎ (x ≡ k) → (y ≡ i) ⊎ (y ≡ k)
      → x ≢ y → Clashes x y ⊎ Clashes y x
  both_of i k x y h (inl a) (inl b) off = absurd (off (a ∙ sym b))
  both_of i k x y h (inr a) (inr b) off = absurd (off (a ∙ sym b))
  both_of i k x y (inl same) (inl a) (inr b) off = absurd (off (a ∙ (same ∙ sym b)))
  both_of i k x y (inl same) (inr a) (inl b) off = absurd (off (a ∙ (sym same ∙ sym b)))
  both_of i k x y (inr clash) (inl a) (inr b) off =
      inl (subst (λ z. Clashes z y) (sym a) (subst (λ z. Clashes i z) (sym b) clash))
  both_of i k x y (inr clash) (inr a) (inl b) off =
      inr (subst (λ z. Clashes z x) (sym b) (subst (λ z. Clashes i z) (sym a) clash))

  abbrev NoneClash : List ℕ → Type 0
  NoneClash L = (l m : ℕ) → has l L ≡ true → has m L ≡ true → l ≢ m → Clashes l m → ⊥

  moved : (t : ℕ → Bool) (j : ℕ) (front rest : List ℕ) (b : Bool) → t j ≡ b
      → (b ≡ true → filter t front ≡ [])
      → filter t (j ∷ front ++ rest) ≡ filter t (front ++ j ∷ rest)
  moved t j front rest true e none =
      ap (λ b. cond b (j ∷ filter t (front ++ rest)) (filter t (front ++ rest))) e
      ∙ (ap (λ ys. j ∷ ys) (filter-append t front rest ∙ ap (λ ys. ys ++ filter t rest) (none refl))
      ∙ sym (filter-append t front (j ∷ rest)
      ∙ (ap (λ ys. ys ++ filter t (j ∷ rest)) (none refl)
      ∙ ap (λ b. cond b (j ∷ filter t rest) (filter t rest)) e)))
  moved t j front rest false e none =
      ap (λ b. cond b (j ∷ filter t (front ++ rest)) (filter t (front ++ rest))) e
      ∙ (filter-append t front rest
      ∙ sym (filter-append t front (j ∷ rest)
      ∙ ap (λ b. filter t front ++ cond b (j ∷ filter t rest) (filter t rest)) e))

  pub may_be_first : (j : ℕ) (front rest : List ℕ) → has j front ≡ false
      → ((l : ℕ) → has l front ≡ true → (Clashes l j ⊎ Clashes j l) → ⊥)
      → AreEquivalent Clashes (j ∷ front ++ rest) (front ++ j ∷ rest)
  may_be_first j front rest off free i k h =
      let t : ℕ → Bool = λ x. x == i || x == k in
      moved t j front rest (t j) refl
      (λ e. none_of t front
      (λ y g. false_from_ne_true (t y)
      (λ f. free y g (both_of i k y j h (one_of i k y f) (one_of i k j e)
      (λ same. false≢true (sym off ∙ (ap (λ x. has x front) (sym same) ∙ g)))))))
