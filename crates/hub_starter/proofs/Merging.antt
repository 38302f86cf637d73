-- Ends of jobs, put in the places of others.
use Rattle.std.proofs.Common.{◌≡◌, ◌≢◌, Bool, true, false, ◌+◌, List, [], ◌∷◌, ◌++◌, length, None, Some, refl, ap, sym, ◌∙◌, subst, arith}
use Rattle.std.specs.Prelude.{◌==◌, ◌<◌, ◌≤◌, ℕ, zero, suc, slice_get, slice_set}
use Rattle.std.proofs.lemmas.Bool.{false≢true}
use Rattle.std.proofs.lemmas.List.{length-set}
use borrow.Author.Tests.{eqb-true}
use Rattle.hub_text.specs.laws.List.{has-item, put-here, snoc-new, snoc-old}
use Rattle.hub_job.specs.declared.job_end.JobEnd.{JobEnd}
use Rattle.hub_schedule.specs.laws.Lists.{set_there}
use Rattle.hub_starter.specs.Waved.{AreMergedEnds}
use Rattle.hub_starter.specs.Waves.{wave_of}
use Rattle.hub_starter.proofs.Numbers.{itself}

-- The ends from a place on are merged, and those before it are as they were; what is left to be
-- put there are the first of the later ones.
pub record AreMergedFrom (numbers : List ℕ) (k : ℕ) (earlier later rest all : List JobEnd) : Type 0
  where
    pub count : length all ≡ length earlier
    pub left : (j : ℕ) → j < length rest → slice_get rest j ≡ slice_get later j
    pub short : length rest ≤ length later
    pub own : (j : ℕ) → length rest ≤ j → (wave_of numbers j == k) ≡ true
        → slice_get all j ≡ slice_get later j
    pub old : (j : ℕ) → (wave_of numbers j == k) ≡ false → slice_get all j ≡ slice_get earlier j
    pub before : (j : ℕ) → j < length rest → slice_get all j ≡ slice_get earlier j

length_snoc : {X : Type 0} (xs : List X) (x : X) → length (xs ++ x ∷ []) ≡ length xs + 1
length_snoc [] x = omega arith
length_snoc (y ∷ xs) x = let rest = length_snoc xs x in omega (arith, rest)

beyond : {X : Type 0} (xs : List X) (j : ℕ) → length xs ≤ j → slice_get xs j ≡ None
beyond [] j l = refl
beyond (x ∷ xs) zero l = absurd (omega (arith, l))
beyond (x ∷ xs) (suc j) l = beyond xs j (omega (arith, l))

module _ (numbers : List ℕ) (k : ℕ) (earlier later : List JobEnd) where
  pub none_merged : length later ≡ length earlier
      → AreMergedFrom numbers k earlier later later earlier
  none_merged same = record {
    count = refl;
    left = λ j l. refl;
    short = omega arith;
    own = λ j l e. beyond earlier j (omega (arith, l, same)) ∙ sym (beyond later j l);
    old = λ j e. refl;
    before = λ j l. refl;
  }

  pub all_merged : (rest all : List JobEnd) → rest ≡ []
      → AreMergedFrom numbers k earlier later rest all → AreMergedEnds numbers k earlier later all
  all_merged rest all none are = record {
    count = are.count;
    own = λ j e. are.own j (let n = ap length none in omega (arith, n)) e;
    old = are.old;
  }

  module _ (rest all fewer : List JobEnd) (x : JobEnd) (last : rest ≡ fewer ++ x ∷ [])
      (are : AreMergedFrom numbers k earlier later rest all) where
    long : length rest ≡ length fewer + 1
    long = ap length last ∙ length_snoc fewer x

    still_left : (j : ℕ) → j < length fewer → slice_get fewer j ≡ slice_get later j
    still_left j l =
        let w = has-item fewer j l in
        let n = long in
        w.1 ∙ (sym (snoc-old fewer x w.0 j w.1) ∙ (sym (ap (λ xs. slice_get xs j) last)
        ∙ are.left j (omega (arith, l, n))))

    its_end : slice_get later (length fewer) ≡ Some x
    its_end =
        let n = long in
        sym (are.left (length fewer) (omega (arith, n)))
        ∙ (ap (λ xs. slice_get xs (length fewer)) last ∙ snoc-new fewer x)

    pub place_there : length later ≡ length earlier → length fewer < length all
    place_there same =
        let n = long in
        let short = are.short in
        let count = are.count in
        omega (arith, n, short, count, same)

    pub one_put : (wave_of numbers (length fewer) == k) ≡ true → length fewer < length all
        → AreMergedFrom numbers k earlier later fewer (slice_set all (length fewer) x)
    one_put its l =
        let n = long in
        let short = are.short in
        record {
          count = length-set all (length fewer) x ∙ are.count;
          left = still_left;
          short = omega (arith, n, short);
          own = λ j m e. own_by j m e (j == length fewer) refl;
          old = λ j e. set_there all j (length fewer) x
              (λ same. false≢true (sym e ∙ (ap (λ i. wave_of numbers i == k) same ∙ its)))
              ∙ are.old j e;
          before = λ j m. set_there all j (length fewer) x (λ same. omega (arith, m, same))
              ∙ are.before j (omega (arith, m, n));
        }
      where
        own_by : (j : ℕ) → length fewer ≤ j → (wave_of numbers j == k) ≡ true → (b : Bool)
            → (j == length fewer) ≡ b
            → slice_get (slice_set all (length fewer) x) j ≡ slice_get later j
        own_by j m e true f =
            let same = eqb-true j (length fewer) f in
            ap (slice_get (slice_set all (length fewer) x)) same
            ∙ (put-here all (length fewer) x l ∙ (sym its_end ∙ ap (slice_get later) (sym same)))
        own_by j m e false f =
            let n = long in
            let off : j ≢ length fewer = λ same.
            (false≢true (sym f ∙ (ap (λ i. i == length fewer) same ∙ itself (length fewer)))) in
            set_there all j (length fewer) x off ∙ are.own j (omega (arith, n, m, off)) e

    pub one_left : (wave_of numbers (length fewer) == k) ≡ false
        → AreMergedFrom numbers k earlier later fewer all
    one_left other =
        let n = long in
        let short = are.short in
        record {
          count = are.count;
          left = still_left;
          short = omega (arith, n, short);
          own = λ j m e.
              let off : j ≢ length fewer = λ same.
              (false≢true (sym other ∙ (ap (λ i. wave_of numbers i == k) (sym same) ∙ e))) in
              are.own j (omega (arith, n, m, off)) e;
          old = are.old;
          before = λ j m. are.before j (omega (arith, m, n));
        }

    -- Whether the job is of the wave or not.
    pub put_or_left : (n : ℕ) (new : List JobEnd) → n ≡ length fewer
        → length later ≡ length earlier
        → ((wave_of numbers n == k) ≡ true → new ≡ slice_set all n x)
        → ((wave_of numbers n == k) ≡ false → new ≡ all)
        → AreMergedFrom numbers k earlier later fewer new
    put_or_left n new at same own others = by_wave (wave_of numbers n == k) refl
      where
        here : (b : Bool) → (wave_of numbers n == k) ≡ b
            → (wave_of numbers (length fewer) == k) ≡ b
        here b e = ap (λ m. wave_of numbers m == k) (sym at) ∙ e

        by_wave : (b : Bool) → (wave_of numbers n == k) ≡ b
            → AreMergedFrom numbers k earlier later fewer new
        by_wave true e =
            subst (λ (xs : List JobEnd). AreMergedFrom numbers k earlier later fewer xs)
            (sym (own e ∙ ap (λ m. slice_set all m x) at))
            (one_put (here true e) (place_there same))
        by_wave false e =
            subst (λ (xs : List JobEnd). AreMergedFrom numbers k earlier later fewer xs)
            (sym (others e)) (one_left (here false e))

-- The same of equal lists.
pub merged_alike : (numbers : List ℕ) (k : ℕ) (one earlier two later three all : List JobEnd)
    → one ≡ earlier → two ≡ later → three ≡ all → AreMergedEnds numbers k one two three
    → AreMergedEnds numbers k earlier later all
merged_alike numbers k one earlier two later three all e f g merged = record {
  count = ap length (sym g) ∙ (merged.count ∙ ap length e);
  own = λ j is. ap (λ (xs : List JobEnd). slice_get xs j) (sym g)
      ∙ (merged.own j is ∙ ap (λ (xs : List JobEnd). slice_get xs j) f);
  old = λ j no. ap (λ (xs : List JobEnd). slice_get xs j) (sym g)
      ∙ (merged.old j no ∙ ap (λ (xs : List JobEnd). slice_get xs j) e);
}
