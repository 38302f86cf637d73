-- Histories in which entries of jobs that clash stand in the order of starts are those of the serial run.
use Rattle.std.proofs.Common.{◌≡◌, inl, inr, Bool, true, false, cond, not, List, [], ◌∷◌, ◌++◌, Option, Some, None, refl, ap, sym, ◌∙◌, subst}
use Rattle.std.specs.Prelude.{◌⊎◌, ◌==◌, ℕ, filter, slice_get, IsTrue}
use Rattle.std.proofs.lemmas.Bool.{false≢true}
use borrow.Author.Tests.{eqb-true}
use Rattle.hub_path.specs.Path.{Path}
use Rattle.hub_profile.specs.Parts.{Parts}
use Rattle.hub_reach.specs.Reach.{has_root}
use Rattle.hub_tree.specs.Tree.{Replica}
use Rattle.hub_job.specs.declared.log.Entry.{Entry}
use Rattle.hub_job.specs.Alike.{May}
use Rattle.hub_job.specs.Machine.{after}
use Rattle.hub_job.specs.History.{replay, IsAnswerOf, IsLegal, entries_of}
use Rattle.hub_serial.specs.Clash.{AreProfiles, JobsClash}
use Rattle.hub_serial.proofs.Commute.{AnswersAlike, OthersAlike, ops_commute}
use Rattle.hub_serial.proofs.Exchange.{are_apart}
use Rattle.hub_serial.proofs.Traces.{itself}

-- What holds of each entry.
abbrev pub All : (Entry → Type 0) → List Entry → Type 0
All C [] = Unit {0}
All C (e ∷ es) = C e × All C es

-- The entries of other jobs.
abbrev pub rest_of : ℕ → List Entry → List Entry
rest_of i h = filter (λ e. not (e.job == i)) h

all_filtered : (C : Entry → Type 0) (t : Entry → Bool) (es : List Entry) → All C es → All C (filter t es)
all_filtered C t [] a = tt
all_filtered C t (e ∷ es) a =
    elim (t e) as (λ b. All C (cond b (e ∷ filter t es) (filter t es))) [
      | true ↦ (a.0, all_filtered C t es a.1)
      | false ↦ all_filtered C t es a.1
    ]

pub replay_on : (m : Replica) (xs ys : List Entry) → replay m (xs ++ ys) ≡ replay (replay m xs) ys
replay_on m [] ys = refl
replay_on m (x ∷ xs) ys = replay_on (after m x.op) xs ys

pub legal_first : (Ps : List Parts) (r : Path) (m : Replica) (xs ys : List Entry) → IsLegal Ps r m (xs ++ ys) → IsLegal Ps r m xs
legal_first Ps r m [] ys l = tt
legal_first Ps r m (x ∷ xs) ys l = (l.0, legal_first Ps r (after m x.op) xs ys l.1)

pub legal_second : (Ps : List Parts) (r : Path) (m : Replica) (xs ys : List Entry) → IsLegal Ps r m (xs ++ ys) → IsLegal Ps r (replay m xs) ys
legal_second Ps r m [] ys l = l
legal_second Ps r m (x ∷ xs) ys l = legal_second Ps r (after m x.op) xs ys l.1

module _ (answers : AnswersAlike) (others : OthersAlike) (Ps : List Parts) (facts : AreProfiles Ps) (r : Path) where
  -- An entry's job may do it at the root.
  abbrev pub Permitted : Entry → Type 0
  Permitted e = (P : Parts) → slice_get Ps e.job ≡ Some P → IsTrue (has_root P r) → May P r e.op

  -- Two entries that stand one after the other, of jobs that don't clash, can be exchanged.
  abbrev Swapped : Replica → Entry → Entry → Type 0
  Swapped m e f = IsAnswerOf r m f (slice_get Ps f.job) × IsAnswerOf r (after m f.op) e (slice_get Ps e.job) × (after (after m e.op) f.op ≡ after (after m f.op) e.op)

  swap_by : (m : Replica) (e f : Entry) (o u : Option Parts) → slice_get Ps e.job ≡ o → slice_get Ps f.job ≡ u → (JobsClash Ps e.job f.job → ⊥)
      → Permitted e → Permitted f → IsAnswerOf r m e o → IsAnswerOf r (after m e.op) f u
      → IsAnswerOf r m f u × IsAnswerOf r (after m f.op) e o × (after (after m e.op) f.op ≡ after (after m f.op) e.op)
  swap_by m e f None u x y free p q a b = absurd a
  swap_by m e f (Some P) None x y free p q a b = absurd b
  swap_by m e f (Some P) (Some Q) x y free p q a b =
      let apart = are_apart P Q (facts e.job P x) (facts f.job Q y) (λ clash. free (P, Q, x, y, clash)) in
      let two = apart.writes r a.0 b.0 in
      let may_e = p P x a.0 in
      let may_f = q Q y b.0 in (
        (b.0, b.1 ∙ answers Q r (after m e.op) m f.op (others P Q r m e.op two.0 two.1 may_e) may_f),
        (a.0, a.1 ∙ sym (answers P r (after m f.op) m e.op (others Q P r m f.op two.1 two.0 may_f) may_e)),
        sym (ops_commute answers others P Q r m two.0 two.1 e.op f.op may_e may_f),
      )

  -- An entry sinks below entries of a job that doesn't clash with its own.
  abbrev Sunk : Replica → Entry → List Entry → List Entry → Type 0
  Sunk m e xs zs = IsLegal Ps r m (xs ++ e ∷ zs) × (replay (after m e.op) (xs ++ zs) ≡ replay m (xs ++ e ∷ zs))

  sink : (i : ℕ) (m : Replica) (e : Entry) (xs zs : List Entry) → All (λ f. f.job ≡ i) xs → All Permitted xs → Permitted e → (JobsClash Ps e.job i → ⊥)
      → IsAnswerOf r m e (slice_get Ps e.job) → IsLegal Ps r (after m e.op) (xs ++ zs) → Sunk m e xs zs
  sink i m e [] zs own may p free a legal = ((a, legal), refl)
  sink i m e (f ∷ xs) zs own may p free a legal =
      let s = swap_by m e f (slice_get Ps e.job) (slice_get Ps f.job) refl refl (λ clash. free (subst (λ j. JobsClash Ps e.job j) own.0 clash)) p may.0 a legal.0 in
      let more = sink i (after m f.op) e xs zs own.1 may.1 p free s.1 (subst (λ k. IsLegal Ps r k (xs ++ zs)) s.2 legal.1) in
      ((s.0, more.0), ap (λ k. replay k (xs ++ zs)) s.2 ∙ more.1)

  -- Where no other job's entry that clashes stands before one of a job's, the job's entries can stand first.
  abbrev pub Leading : ℕ → List Entry → Type 0
  Leading i [] = Unit {0}
  Leading i (e ∷ es) = ((e.job ≡ i) ⊎ ((entries_of i es ≡ []) ⊎ (JobsClash Ps e.job i → ⊥))) × Leading i es

  pub own_jobs : (i : ℕ) (es : List Entry) → All (λ f. f.job ≡ i) (entries_of i es)
  own_jobs i [] = tt
  own_jobs i (e ∷ es) =
      elim (e.job == i) as (λ b. (e.job == i) ≡ b → All (λ f. f.job ≡ i) (cond b (e ∷ entries_of i es) (entries_of i es))) [
        | true ↦ λ h. (eqb-true e.job i h, own_jobs i es)
        | false ↦ λ h. own_jobs i es
      ] refl

  abbrev pub Parted : ℕ → Replica → List Entry → Type 0
  Parted i m h = IsLegal Ps r m (entries_of i h ++ rest_of i h) × (replay m h ≡ replay m (entries_of i h ++ rest_of i h))

  part_other : (i : ℕ) (m : Replica) (e : Entry) (es : List Entry) → All Permitted es → Permitted e → IsAnswerOf r m e (slice_get Ps e.job)
      → (entries_of i es ≡ []) ⊎ (JobsClash Ps e.job i → ⊥) → Parted i (after m e.op) es
      → IsLegal Ps r m (entries_of i es ++ e ∷ rest_of i es) × (replay m (e ∷ es) ≡ replay m (entries_of i es ++ e ∷ rest_of i es))
  part_other i m e es may p a (inl none) more =
      let gone : (zs : List Entry) → entries_of i es ++ zs ≡ zs = λ zs. ap (λ xs. xs ++ zs) none in (
        subst (λ xs. IsLegal Ps r m xs) (sym (gone (e ∷ rest_of i es))) (a, subst (λ xs. IsLegal Ps r (after m e.op) xs) (gone (rest_of i es)) more.0),
        more.1 ∙ (ap (replay (after m e.op)) (gone (rest_of i es)) ∙ sym (ap (replay m) (gone (e ∷ rest_of i es)))),
      )
  part_other i m e es may p a (inr free) more =
      let s = sink i m e (entries_of i es) (rest_of i es) (own_jobs i es) (all_filtered Permitted (λ f. f.job == i) es may) p free a more.0 in
      (s.0, more.1 ∙ s.1)

  part_by : (i : ℕ) (m : Replica) (e : Entry) (es : List Entry) (b : Bool) → (e.job == i) ≡ b → All Permitted (e ∷ es) → Leading i (e ∷ es) → IsAnswerOf r m e (slice_get Ps e.job)
      → Parted i (after m e.op) es
      → IsLegal Ps r m (cond b (e ∷ entries_of i es) (entries_of i es) ++ cond (not b) (e ∷ rest_of i es) (rest_of i es))
      × (replay m (e ∷ es) ≡ replay m (cond b (e ∷ entries_of i es) (entries_of i es) ++ cond (not b) (e ∷ rest_of i es) (rest_of i es)))
  part_by i m e es true h may lead a more = ((a, more.0), more.1)
  part_by i m e es false h may lead a more =
      part_other i m e es may.1 may.0 a
      (elim lead.0 [
        | inl same ↦ absurd (false≢true (sym h ∙ (ap (λ x. x == i) same ∙ itself i)))
        | inr free ↦ free
      ]) more

  pub part : (i : ℕ) (m : Replica) (h : List Entry) → All Permitted h → Leading i h → IsLegal Ps r m h → Parted i m h
  part i m [] may lead legal = (tt, refl)
  part i m (e ∷ es) may lead legal =
      part_by i m e es (e.job == i) refl may lead legal.0 (part i (after m e.op) es may.1 lead.1 legal.1)
