-- Cycles: what they hold, and how often.
use Rattle.std.proofs.Common.{◌≡◌, ◌≤◌, ◌<◌, ◌+◌, ◌==◌, ◌≢◌, ℕ, zero, suc, Bool, true, false, cond, List, [], ◌∷◌, ◌++◌, length, min, refl, sym, ap, ◌∙◌, subst, arith}
use Rattle.std.specs.Prelude.{All, count_by}
use Rattle.std.specs.Prelude.{Option, Some, None, unwrap_or, slice_get}
use Rattle.std.specs.FinMap as fin
use Rattle.std.specs.List.{range_with_len}
use Rattle.std.proofs.lemmas.Option.{slice_get_within}
use Rattle.hub_text.specs.laws.List.{range-more}
use Rattle.hub_path.specs.Path.{Path, path_cmp}
use Rattle.hub_profile.specs.Parts.{Parts}
use Rattle.hub_tree.specs.Tree.{Replica}
use Rattle.hub_tree.specs.declared.contents.Contents.{Contents}
use Rattle.hub_state.specs.State.{State, replica_at}
use Rattle.hub_job.specs.Outcome.{replicas_of}
use Rattle.hub_schedule.specs.Simulated.{AllHaveEnough, turns_enough, turns_of}
use Rattle.std.proofs.lemmas.List.{append_assoc}
use Rattle.std.proofs.lemmas.List.FromFn.{length-range_with_len, get_or-range_with_len}
use Rattle.std.proofs.lemmas.Bool.{ne_eqb, eqb-false}
use borrow.Author.Tests.{eqb-true}
use Rattle.std.proofs.lemmas.List.Elements.{All-append}
use Rattle.std.proofs.lemmas.List.Sums.{sum_by-append}

pub cycle_more : (old now : List ℕ) (n : ℕ) → now ≡ old ++ range_with_len 0 n → now ++ n ∷ [] ≡ old ++ range_with_len 0 (n + 1)
cycle_more old now n e = ap (λ r. r ++ n ∷ []) e ∙ append_assoc old (range_with_len 0 n) (n ∷ []) ∙ ap (λ r. old ++ r) (sym (range-more n))

-- Each number of a cycle is below the number of jobs.
pub all_cycle : (k : ℕ) → All (λ j. j < k) (range_with_len 0 k)
all_cycle k i d h =
    let below : i < k = subst (λ n. i < n) (length-range_with_len 0 k) h in
    subst (λ x. x < k) (sym (get_or-range_with_len 0 k i d below)) (omega arith)

count_next : (j a : ℕ) (xs : List ℕ) → count_by (λ i. i == j) (a ∷ xs) ≡ cond (a == j) 1 0 + count_by (λ i. i == j) xs
count_next j a xs = sum_by-append (λ i. cond (i == j) 1 0) (a ∷ []) xs ∙ omega arith

count_above : (j a n : ℕ) → j < a → count_by (λ i. i == j) (range_with_len a n) ≡ 0
count_above j a zero h = refl
count_above j a (suc n) h =
    count_next j a (range_with_len (a + 1) n) ∙ ap (λ b. cond b 1 0 + count_by (λ i. i == j) (range_with_len (a + 1) n)) (ne_eqb a j (omega arith))
    ∙ (let rest = count_above j (a + 1) n (omega arith) in omega arith)

-- A number is met once, or not at all.
count_step : (j a n : ℕ) → (a ≢ j → count_by (λ i. i == j) (range_with_len (a + 1) n) ≡ 1) → a ≤ j → (b : Bool) → (a == j) ≡ b → cond b 1 0 + count_by (λ i. i == j) (range_with_len (a + 1) n) ≡ 1
count_step j a n rest h true e =
    let same : a ≡ j = eqb-true a j e in
    let none = count_above j (a + 1) n (omega arith) in omega arith
count_step j a n rest h false e = let once = rest (eqb-false a j e) in omega arith

count_from : (j a n : ℕ) → a ≤ j → j < a + n → count_by (λ i. i == j) (range_with_len a n) ≡ 1
count_from j a zero h k = absurd (omega arith)
count_from j a (suc n) h k =
    count_next j a (range_with_len (a + 1) n)
    ∙ count_step j a n (λ other. count_from j (a + 1) n (omega arith) (omega arith)) h (a == j) refl

pub count_cycle : (j n : ℕ) → j < n → count_by (λ i. i == j) (range_with_len 0 n) ≡ 1
count_cycle j n h = count_from j 0 n (omega arith) (omega arith)

pub count_both : (j : ℕ) (xs ys : List ℕ) → count_by (λ i. i == j) (xs ++ ys) ≡ count_by (λ i. i == j) xs + count_by (λ i. i == j) ys
count_both j xs ys = sum_by-append (λ i. cond (i == j) 1 0) xs ys

abbrev there : Option Replica → ℕ
there o = fin.len (unwrap_or o fin.empty)

pub len_there : (S : State) (r : Path) (m : Replica) → Some m ≡ replica_at S r → fin.len m ≡ fin.len (replicas_of S r)
len_there S r m e = ap there e

pub len_missing : (S : State) (r : Path) → None ≡ replica_at S r → 0 ≡ fin.len (replicas_of S r)
len_missing S r e = sym (fin.len-empty path_cmp Contents) ∙ ap there e

-- A count that isn't the greatest number is exact.
pub counted : (n len : ℕ) → n ≡ min len 18446744073709551615 → n ≢ 18446744073709551615 → n ≡ len
counted n len e other = omega arith

-- So many whole cycles.
pub record AreCycles (jobs cycles : ℕ) (schedule : List ℕ) : Type 0 where
  pub numbers : All (λ j. j < jobs) schedule
  pub counts : (j : ℕ) → j < jobs → turns_of j schedule ≡ cycles

pub one_more : (jobs cycles : ℕ) (old new : List ℕ) → AreCycles jobs cycles old → new ≡ old ++ range_with_len 0 jobs → AreCycles jobs (cycles + 1) new
one_more jobs cycles old new are e = record {
  numbers = subst (λ s. All (λ j. j < jobs) s) (sym e) (All-append (λ j. j < jobs) old (range_with_len 0 jobs) are.numbers (all_cycle jobs));
  counts = λ j h. ap (λ s. turns_of j s) e ∙ count_both j old (range_with_len 0 jobs) ∙ (let a = are.counts j h in let b = count_cycle j jobs h in omega arith);
}

pub enough : (S : State) (Ps : List Parts) (cycles : ℕ) (schedule : List ℕ) → AreCycles (length Ps) cycles schedule
    → ((j : ℕ) (P : Parts) → slice_get Ps j ≡ Some P → turns_enough S P ≤ cycles) → AllHaveEnough S Ps schedule
enough S Ps cycles schedule are most j P e = subst (λ n. turns_enough S P ≤ n) (sym (are.counts j (slice_get_within Ps j P e))) (most j P e)
