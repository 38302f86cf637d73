-- What the jobs of a wave are given: each the archive of its pair, as it stands where the job reaches.
use Rattle.std.proofs.Common.{◌≡◌, ◌≢◌, inl, inr, Bool, true, false, cond, List, [], ◌∷◌, Option, Some, None, refl, ap, sym, ◌∙◌}
use Rattle.std.specs.Prelude.{◌==◌, ℕ, IsTrue, slice_get}
use Rattle.std.specs.FinMap as fin
use Rattle.std.proofs.lemmas.Bool.{false≢true, false_from_ne_true}
use Rattle.hub_path.specs.Path.{Path}
use Rattle.hub_path.specs.laws.General.{is_over-reflexive}
use Rattle.hub_profile.specs.Parts.{Parts}
use Rattle.hub_reach.specs.Reach.{reach}
use Rattle.hub_tree.specs.Tree.{Archive}
use Rattle.hub_job.specs.Ends.{archive_after}
use Rattle.hub_serial.specs.Clash.{AreProfiles, JobsClash}
use Rattle.hub_serial.specs.RunRecord.{RunRecord, WereGiven, archives_after_end, with_marks_by, with_marks_of}
use Rattle.hub_serial.specs.World.{RootPair, pair_eq, pair_of}
use Rattle.hub_starter.specs.Waves.{gap, gap_by}
use Rattle.hub_starter.proofs.Numbers.{Distinct, has, has_here, has_later, has_not_both, itself}
use Rattle.hub_starter.proofs.Marks.{untouched}
use Rattle.hub_starter.proofs.Pairs.{same_pair, shares_archive}

-- No two of these jobs that clash have one archive.
abbrev pub NoneShares : List Parts → List ℕ → Type 0
NoneShares Ps W = (i k : ℕ) → has i W ≡ true → has k W ≡ true → i ≢ k → JobsClash Ps i k
    → gap Ps i k ≡ 1 → gap Ps k i ≡ 1 → ⊥

-- Two profiles of one pair of roots have one archive.
pub shared_gap : (Ps : List Parts) → AreProfiles Ps → (i k : ℕ) (P Q : Parts)
    → slice_get Ps i ≡ Some P → slice_get Ps k ≡ Some Q → pair_of P ≡ pair_of Q → gap Ps i k ≡ 1
shared_gap Ps facts i k P Q x y e =
    (λ z. gap_by (x z) (y z))
    ∙ ap (λ b. cond b 1 0) (shares_archive P Q (facts i P x) (facts k Q y) e)

module _ (Ps : List Parts) (facts : AreProfiles Ps) (W : List ℕ) (lone : NoneShares Ps W)
    (R : RunRecord) (archives : RootPair → Archive)
    (given : (j : ℕ) (P : Parts) → slice_get Ps j ≡ Some P → R.given j ≡ archives (pair_of P)) where
  -- Where a job of the wave reaches, its archive stays until the job starts.
  abbrev StaysFor : (RootPair → Archive) → ℕ → Type 0
  StaysFor A l = (P : Parts) → slice_get Ps l ≡ Some P → (q : Path) → IsTrue (reach P q)
      → fin.get (archives (pair_of P)) q ≡ fin.get (A (pair_of P)) q

  module _ (j l : ℕ) (of_j : has j W ≡ true) (of_l : has l W ≡ true) (off : l ≢ j) (P : Parts)
      (is : slice_get Ps l ≡ Some P) (q : Path) (reached : IsTrue (reach P q))
      (A : RootPair → Archive) where
    same_pair_stays : (Q : Parts) → slice_get Ps j ≡ Some Q → (c : Bool)
        → pair_eq (pair_of Q) (pair_of P) ≡ c
        → fin.get (cond c (archive_after Q (A (pair_of P)) (R.log j)) (A (pair_of P))) q
        ≡ fin.get (A (pair_of P)) q
    same_pair_stays Q at false e = refl
    same_pair_stays Q at true e =
        let same = same_pair (pair_of Q) (pair_of P) e in
        untouched Q (A (pair_of P)) (R.log j) q
        (false_from_ne_true (reach Q q) (λ g.
        let share = shares_archive P Q (facts l P is) (facts j Q at) (sym same) in
        lone l j of_l of_j off
        (P, Q, is, at, inl (inr (share, (q, q, is_over-reflexive q, reached, g))))
        (shared_gap Ps facts l j P Q is at (sym same)) (shared_gap Ps facts j l Q P at is same)))

    marks_stay : (o : Option Parts) → slice_get Ps j ≡ o
        → fin.get (with_marks_by A (R.log j) o (pair_of P)) q ≡ fin.get (A (pair_of P)) q
    marks_stay None at = refl
    marks_stay (Some Q) at = same_pair_stays Q at (pair_eq (pair_of Q) (pair_of P)) refl

    end_stays : (b : Bool)
        → fin.get (cond b (with_marks_of Ps R j A) A (pair_of P)) q ≡ fin.get (A (pair_of P)) q
    end_stays true = marks_stay (slice_get Ps j) refl
    end_stays false = refl

  given_in_turn : (L : List ℕ) (A : RootPair → Archive) → Distinct L
      → ((l : ℕ) → has l L ≡ true → has l W ≡ true) → ((l : ℕ) → has l L ≡ true → StaysFor A l)
      → WereGiven Ps R L A
  given_in_turn [] A d among stays = tt
  given_in_turn (j ∷ L) A d among stays = (
    λ P is q h. ap (λ O. fin.get O q) (given j P is) ∙ stays j (has_here j L) P is q h,
    given_in_turn L (archives_after_end Ps R j A) d.1 (λ l g. among l (has_later l j L g))
        (λ l g P is q h. stays l (has_later l j L g) P is q h
        ∙ sym (end_stays j l (among j (has_here j L)) (among l (has_later l j L g))
        (λ same. false≢true (sym (has_not_both j l L d.0 g)
        ∙ (ap (λ x. x == j) same ∙ itself j))) P is q h A (R.done j))),
  )

  pub were_given : Distinct W → WereGiven Ps R W archives
  were_given distinct = given_in_turn W archives distinct (λ l g. g) (λ l g P is q h. refl)
