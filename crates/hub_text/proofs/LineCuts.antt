-- A text cut at its first LF, as the first of its lines and the others.
use Rattle.std.proofs.Common.{◌≡◌, ℕ, zero, suc, ◌+◌, ◌<◌, Bool, true, false, ◌||◌, List, [], ◌∷◌, length, take, drop, slice_index, refl, sym, ap, ◌∙◌, arith, length-drop}
use Rattle.std.specs.Prelude.{Option, Some, None, MatchOption}
use Rattle.std.specs.List.{list_any, before_first, after_first, position_or_len}
use Rattle.std.proofs.lemmas.Bool.{false_from_ne_true, or_parts}
use Rattle.memchr.specs.Find.{IsFirstByte, is_byte}
use Rattle.hub_text.specs.Lines.{is_lf, lines_of, onto_first_line, ended, unended}

-- A character that isn't LF stands in front of the first line.
cons-line : (c : ℕ) (cs : List ℕ) → is_lf c ≡ false → lines_of (c ∷ cs) ≡ onto_first_line c (lines_of cs)
cons-line c cs h = rw h refl

cut-at : (s : List ℕ) (k : ℕ) → k < length s → ((i : ℕ) → i < k → is_lf (slice_index s i) ≡ false) → is_lf (slice_index s k) ≡ true
    → lines_of s ≡ ended (take k s) ∷ lines_of (drop (suc k) s)
cut-at [] k l n h = absurd (omega (arith, l))
cut-at (c ∷ s) zero l n h = rw h refl
cut-at (c ∷ s) (suc k) l n h =
    cons-line c s (n zero (omega arith))
    ∙ ap (onto_first_line c) (cut-at s k (omega (arith, l)) (λ i m. n (suc i) (omega (arith, m))) h)

cut-none : (c : ℕ) (s : List ℕ) → ((i : ℕ) → i < length (c ∷ s) → is_lf (slice_index (c ∷ s) i) ≡ false) → lines_of (c ∷ s) ≡ unended (c ∷ s) ∷ []
cut-none c [] n = cons-line c [] (n zero (omega arith))
cut-none c (d ∷ s) n =
    cons-line c (d ∷ s) (n zero (omega arith)) ∙ ap (onto_first_line c) (cut-none d s (λ i m. n (suc i) (omega (arith, m))))

-- The cut that `memchr` finds.
abbrev pub CutsLine : List ℕ → Option ℕ → Type 0
CutsLine s r =
    MatchOption r (lines_of s ≡ unended s ∷ [])
    (λ k. (k < length s) × (lines_of s ≡ ended (take k s) ∷ lines_of (drop (k + 1) s)) × (length (drop (k + 1) s) < length s))

pub found-line : (s : List ℕ) (r : Option ℕ) → 0 < length s → IsFirstByte (is_byte 10) s r → CutsLine s r
found-line [] r l h = absurd (omega (arith, l))
found-line (c ∷ s) None l h = cut-none c s (λ i m. false_from_ne_true _ (h i (omega arith) m))
found-line (c ∷ s) (Some k) l h =
    let e : k + 1 ≡ suc k = omega arith in (
      h.0.high,
      cut-at (c ∷ s) k h.0.high (λ i m. false_from_ne_true _ (h.0.before i (omega arith) m)) h.1 ∙ ap (λ n. ended (take k (c ∷ s)) ∷ lines_of (drop n (c ∷ s))) (sym e),
      omega (arith, length-drop (k + 1) (c ∷ s)),
    )

-- The cut by a search for the first character that is an LF.
any-line : (cs : List ℕ) → list_any is_lf cs ≡ true → lines_of cs ≡ ended (before_first is_lf cs) ∷ lines_of (after_first is_lf cs)
any-line [] h = cc
any-line (c ∷ cs) h = by (is_lf c) refl (any-line cs)
  where
    by : (b : Bool) → is_lf c ≡ b → (list_any is_lf cs ≡ true → lines_of cs ≡ ended (before_first is_lf cs) ∷ lines_of (after_first is_lf cs))
        → lines_of (c ∷ cs) ≡ ended (before_first is_lf (c ∷ cs)) ∷ lines_of (after_first is_lf (c ∷ cs))
    by true e more = rw e refl
    by false e more =
        let later : list_any is_lf cs ≡ true = sym (ap (λ b. b || list_any is_lf cs) e) ∙ h in
        let one : 1 + position_or_len is_lf cs ≡ suc (position_or_len is_lf cs) = omega arith in
        let two : 1 + position_or_len is_lf cs + 1 ≡ suc (position_or_len is_lf cs + 1) = omega arith in
        cons-line c cs e ∙ ap (onto_first_line c) (more later) ∙ rw (e, two, one) refl

no-line : (c : ℕ) (cs : List ℕ) → list_any is_lf (c ∷ cs) ≡ false → lines_of (c ∷ cs) ≡ unended (c ∷ cs) ∷ []
no-line c [] h = cons-line c [] (or_parts _ _ h).0
no-line c (d ∷ cs) h = let none = or_parts (is_lf c) (list_any is_lf (d ∷ cs)) h in cons-line c (d ∷ cs) none.0 ∙ ap (onto_first_line c) (no-line d cs none.1)

pub unended-text : (cs : List ℕ) → 0 < length cs → list_any is_lf cs ≡ false → lines_of cs ≡ unended cs ∷ []
unended-text [] l h = absurd (omega (arith, l))
unended-text (c ∷ cs) l h = no-line c cs h

pub ended-text : (cs line rest : List ℕ) → list_any is_lf cs ≡ true → line ≡ before_first is_lf cs → rest ≡ after_first is_lf cs → lines_of cs ≡ ended line ∷ lines_of rest
ended-text cs line rest h e f = any-line cs h ∙ (ap (λ l. ended l ∷ lines_of (after_first is_lf cs)) (sym e) ∙ ap (λ r. ended line ∷ lines_of r) (sym f))

pub shorter-text : (cs rest : List ℕ) → 0 < length cs → rest ≡ after_first is_lf cs → length rest < length cs
shorter-text cs rest l e = omega (arith, ap length e, length-drop (position_or_len is_lf cs + 1) cs)
