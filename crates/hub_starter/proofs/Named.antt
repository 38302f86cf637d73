-- Pairs of jobs that lines name.
use Rattle.std.proofs.Common.{◌≡◌, ◌≢◌, inl, inr, true, false, ◌&&◌, ◌||◌, List, [], ◌∷◌, Option, Some, None, min, max, refl, ap, arith}
use Rattle.std.specs.Prelude.{◌==◌, ◌<◌, ℕ, suc, slice_get}
use Rattle.std.specs.List.{cons_option}
use Rattle.std.proofs.lemmas.Bool.{false≢true, and_parts, or_cases}
use borrow.Author.Tests.{eqb-true}
use Rattle.hub_cert.specs.declared.fault.CheckFault.{CheckFault}
use Rattle.hub_profile.specs.Parts.{Parts}
use Rattle.hub_rounds.specs.Lines.{names_pair, subject_of}
use Rattle.hub_rounds.specs.declared.subject.Subject.{Subject}
use Rattle.hub_rounds.specs.declared.subject.Subject.TheVariants.{Alone, Nothing, Pair}
use Rattle.hub_runner.specs.declared.pairs.JobPair.{JobPair}
use Rattle.hub_serial.specs.Clash.{JobsClash}
use Rattle.hub_starter.specs.Waves.{HaveEachClash, may_clash, pair_said, pairs_in}

abbrev pair : ℕ → ℕ → JobPair
pair i j = record { earlier = i; later = j }

abbrev IsThere : List JobPair → JobPair → Type 0
IsThere pairs p = (k : ℕ) × (slice_get pairs k ≡ Some p)

same_pair : (w o i j : ℕ) → i < j → ((w == i && o == j) || (w == j && o == i)) ≡ true
    → pair (min w o) (max w o) ≡ pair i j
same_pair w o i j l e =
    elim (or_cases (w == i && o == j) (w == j && o == i) e) [
      | inl h ↦
          let two = and_parts (w == i) (o == j) h in
          let a = eqb-true w i two.0 in
          let b = eqb-true o j two.1 in
          let x : min w o ≡ i = omega (arith, a, b, l) in
          let y : max w o ≡ j = omega (arith, a, b, l) in
          λ z. pair (x z) (y z)
      | inr h ↦
          let two = and_parts (w == j) (o == i) h in
          let a = eqb-true w j two.0 in
          let b = eqb-true o i two.1 in
          let x : min w o ≡ i = omega (arith, a, b, l) in
          let y : max w o ≡ j = omega (arith, a, b, l) in
          λ z. pair (x z) (y z)
    ]

here_said : (s : Subject) (ps : List JobPair) (i j : ℕ) → i < j → names_pair s i j ≡ true
    → IsThere (cons_option (pair_said s) ps) (pair i j)
here_said (Pair w o) ps i j l e = (0, ap (λ (p : JobPair). Some p) (same_pair w o i j l e))
here_said (Alone p why) ps i j l e = absurd (false≢true e)
here_said Nothing ps i j l e = absurd (false≢true e)

later_said : (x : Option JobPair) (ps : List JobPair) (p : JobPair) → IsThere ps p
    → IsThere (cons_option x ps) p
later_said None ps p w = w
later_said (Some q) ps p w = (suc w.0, w.1)

line_pair : (es : List CheckFault) (i j : ℕ) → i < j → may_clash es i j ≡ true
    → IsThere (pairs_in es) (pair i j)
line_pair [] i j l e = absurd (false≢true e)
line_pair (x ∷ es) i j l e =
    elim (or_cases (names_pair (subject_of x) i j) (may_clash es i j) e) [
      | inl here ↦ here_said (subject_of x) (pairs_in es) i j l here
      | inr more ↦ later_said (pair_said (subject_of x)) (pairs_in es) (pair i j) (line_pair es i j l more)
    ]

pub each_clash : (Ps : List Parts) (es : List CheckFault)
    → ((i j : ℕ) → i ≢ j → may_clash es i j ≡ false → ¬ (JobsClash Ps i j))
    → HaveEachClash Ps (pairs_in es)
each_clash Ps es free i j l clash =
    elim (may_clash es i j) as (λ b. may_clash es i j ≡ b → IsThere (pairs_in es) (pair i j)) [
      | true ↦ λ e. line_pair es i j l e
      | false ↦ λ e. absurd (free i j (λ same. omega (arith, l, same)) e clash)
    ] refl
