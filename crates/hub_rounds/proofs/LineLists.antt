-- Lists of the lines about each profile.
use Rattle.std.proofs.Common.{◌≡◌, ◌∙◌, ⊎_elim, ◌<◌, ◌≤◌, ◌↔◌, ℕ, ◌+◌, Bool, true, false, List, length, Option, None, Some, refl, sym, ap, subst, arith}
use Rattle.std.specs.Prelude.{Contains, slice_get}
use Rattle.std.specs.List.{list_any}
use Rattle.std.proofs.lemmas.Bool.{true≢false}
use Rattle.std.proofs.lemmas.Bool.Decides.{nat_tests}
use Rattle.std.proofs.lemmas.Option.{same_Some, slice_get_within}
use Rattle.hub_text.specs.laws.List.{at-place, in-place, less-or-same}
use Rattle.hub_profile.specs.Parts.{some_passes}
use Rattle.hub_cert.specs.declared.fault.CheckFault.{CheckFault}
use Rattle.hub_rounds.specs.Lines.{HasNoOwnLine, HasPair, names_alone, names_pair, subject_of}
use Rattle.hub_rounds.specs.Named.{AddsNotes, AreLinesOf, AreNoted, HasNote, alone_at, is_about, pair_at}
use Rattle.hub_rounds.specs.declared.subject.Subject.{Subject}
use Rattle.hub_rounds.specs.declared.subject.Subject.TheVariants.{Alone, Nothing, Pair}
use Rattle.hub_rounds.proofs.Reasons.{itself}
use Rattle.hub_rounds.proofs.Rivals.{test-finds, test-passes}

-- The lines before one, and one more.
abbrev pub AreNotedBefore : List CheckFault → List (List ℕ) → ℕ → Type 0
AreNotedBefore es ls n =
    (m i : ℕ) (e : CheckFault) → m < n → slice_get es m ≡ Some e → i < length ls → is_about i (subject_of e) ≡ true → HasNote ls i m

pub one-line-more : (es : List CheckFault) (ls ks : List (List ℕ)) (n : ℕ) (e : CheckFault) → slice_get es n ≡ Some e → AddsNotes ls ks (subject_of e) n
    → AreNotedBefore es ls n → AreNotedBefore es ks (n + 1)
one-line-more es ls ks n e at_n adds before = λ m i x l at within about.
    let inside : i < length ls = subst (λ (k : ℕ). i < k) adds.long within in
    ⊎_elim
    (λ less. adds.kept i m (before m i x less at inside about))
    (λ same.
    let own : x ≡ e = same_Some x e (sym at ∙ (ap (slice_get es) same ∙ at_n)) in
    subst (λ (k : ℕ). HasNote ks i k) (sym same) (adds.added i inside (ap (λ (y : CheckFault). is_about i (subject_of y)) (sym own) ∙ about)))
    (less-or-same m n l)

pub all-noted : (es : List CheckFault) (ls : List (List ℕ)) (n : ℕ) → length es ≤ n → AreNotedBefore es ls n → AreNoted es ls
all-noted es ls n past before = λ m i e at within about.
    let h = slice_get_within es m e at in before m i e (omega (arith, h, past)) at within about

-- The list of one profile.
pub lines-in : (es : List CheckFault) (ls : List (List ℕ)) (ms : List ℕ) (i : ℕ) → slice_get ls i ≡ Some ms → AreNoted es ls → AreLinesOf es ms i
lines-in es ls ms i at noted = λ m e at_m about.
    let h = noted m i e at_m (slice_get_within ls i ms at) about in
    subst (λ (xs : List ℕ). Contains xs m) (same_Some h.0 ms (sym h.1 ∙ at)) h.2

-- No line of it is about the profile alone, so none is.
pub none-own : (es : List CheckFault) (ms : List ℕ) (i : ℕ) → AreLinesOf es ms i → list_any (alone_at es i) ms ≡ false → HasNoOwnLine es i
none-own es ms i lines out why has =
    let alone : names_alone i (subject_of has.0) ≡ true = ap (names_alone i) has.2 ∙ itself i in
    let w = at-place es has.0 has.1 in
    let noted = lines w.0 has.0 w.2 (ap (is_about i) has.2 ∙ itself i) in
    true≢false (sym (test-passes (alone_at es i) ms w.0 noted (ap (some_passes (λ (e : CheckFault). names_alone i (subject_of e))) w.2 ∙ alone)) ∙ out)

-- A line about two profiles is one about the second of them.
pub about-second : (i j : ℕ) (s : Subject) → names_pair s i j ≡ true → is_about j s ≡ true
about-second i j (Pair w o) t = grind (arith, nat_tests, t)
about-second i j (Alone p why) t = absurd (true≢false (sym t))
about-second i j Nothing t = absurd (true≢false (sym t))

pub pair-noted : (es : List CheckFault) (ms : List ℕ) (i j : ℕ) → AreLinesOf es ms j → list_any (pair_at es i j) ms ≡ true ↔ HasPair es i j
pair-noted es ms i j lines = (finds, passes)
  where
    test : CheckFault → Bool
    test e = names_pair (subject_of e) i j

    found : (m : ℕ) (o : Option CheckFault) → slice_get es m ≡ o → some_passes test o ≡ true → HasPair es i j
    found m None at t = absurd (true≢false (sym t))
    found m (Some e) at t = (e, in-place es m e at, t)

    finds : list_any (pair_at es i j) ms ≡ true → HasPair es i j
    finds t = let w = test-finds (pair_at es i j) ms t in found w.0 (slice_get es w.0) refl w.2

    passes : HasPair es i j → list_any (pair_at es i j) ms ≡ true
    passes h =
        let w = at-place es h.0 h.1 in
        test-passes (pair_at es i j) ms w.0 (lines w.0 h.0 w.2 (about-second i j (subject_of h.0) h.2)) (ap (some_passes test) w.2 ∙ h.2)
