-- What holds of the lines of a text.
use Rattle.std.proofs.Common.{◌≡◌, ◌<◌, ◌≤◌, ⊎_elim, arith, length, length-append, ℕ, Bool, true, false, cond, List, [], ◌∷◌, ◌++◌, refl, sym, ap, ◌∙◌}
use Rattle.std.specs.List.{list_all, list_any}
use Rattle.std.proofs.lemmas.Bool.{cases_lt, and_parts, or_parts, eqb-true}
use Rattle.std.proofs.lemmas.List.{nil_from_length}
use Rattle.std.specs.Str.{all_scalars}
use lib.Utf8.{scalar}
use Rattle.hub_text.specs.declared.line.Line.{Line}
use Rattle.hub_text.specs.Lines.{is_lf, lines_of, onto_first_line, ended, line_text, text_of_lines}

-- A text that begins with a line and its LF.
pub lines_of-ended : (l rest : List ℕ) → list_any is_lf l ≡ false
    → lines_of (l ++ 10 ∷ rest) ≡ ended l ∷ lines_of rest
lines_of-ended [] rest h = refl
lines_of-ended (c ∷ l) rest h =
    let none = or_parts (is_lf c) (list_any is_lf l) h in
    rw none.0 (ap (onto_first_line c) (lines_of-ended l rest none.1))

text-onto : (c : ℕ) (ls : List (Line (List ℕ)))
    → text_of_lines (onto_first_line c ls) ≡ c ∷ text_of_lines ls
text-onto c [] = refl
text-onto c (l ∷ ls) = by l.is_ended refl
  where
    by : (b : Bool) → l.is_ended ≡ b → text_of_lines (onto_first_line c (l ∷ ls))
        ≡ c ∷ text_of_lines (l ∷ ls)
    by true e = rw e refl
    by false e = rw e refl

-- The lines of a text have the whole text.
pub text_of_lines-lines_of : (cs : List ℕ) → text_of_lines (lines_of cs) ≡ cs
text_of_lines-lines_of [] = refl
text_of_lines-lines_of (c ∷ cs) = by (is_lf c) refl (text_of_lines-lines_of cs)
  where
    by : (b : Bool) → is_lf c ≡ b → text_of_lines (lines_of cs) ≡ cs
        → text_of_lines (lines_of (c ∷ cs)) ≡ c ∷ cs
    by true e more =
        rw e (ap (λ d. d ∷ text_of_lines (lines_of cs)) (sym (eqb-true c 10 e))
        ∙ ap (λ t. c ∷ t) more)
    by false e more = rw e (text-onto c (lines_of cs) ∙ ap (λ t. c ∷ t) more)

-- A text is its first line and what is below it, which is shorter.
pub text-first_line : (s t : List ℕ) (l : Line (List ℕ)) → lines_of s ≡ l ∷ lines_of t
    → s ≡ line_text l ++ t
text-first_line s t l e =
    sym (text_of_lines-lines_of s) ∙ (ap text_of_lines e
    ∙ ap (λ u. line_text l ++ u) (text_of_lines-lines_of t))

pub shorter-first_line : (s t : List ℕ) (l : Line (List ℕ)) → lines_of s ≡ l ∷ lines_of t
    → length t < length s
shorter-first_line s t l e =
    ⊎_elim (λ some. omega (
      arith,
      some,
      ap length (text-first_line s t l e),
      length-append (line_text l) t,
    ))
    (λ none. absurd (omega (arith, ap length e, same none)))
    (cases_lt 0 (length (line_text l)))
  where
    same : length (line_text l) ≤ 0 → length (lines_of s) ≡ length (lines_of t)
    same none =
        ap (λ u. length (lines_of u)) (text-first_line s t l e
        ∙ ap (λ u. u ++ t) (nil_from_length (line_text l) (omega (arith, none))))

-- The lines of characters are characters.
abbrev pub are_scalars : List (Line (List ℕ)) → Bool
are_scalars ls = list_all (λ l. all_scalars l.text) ls

scalars-onto : (c : ℕ) (ls : List (Line (List ℕ))) → scalar c ≡ true → are_scalars ls ≡ true
    → are_scalars (onto_first_line c ls) ≡ true
scalars-onto c [] s h = rw s refl
scalars-onto c (l ∷ ls) s h = rw s h

pub scalars-lines_of : (cs : List ℕ) → all_scalars cs ≡ true → are_scalars (lines_of cs) ≡ true
scalars-lines_of [] h = refl
scalars-lines_of (c ∷ cs) h =
    let parts = and_parts (scalar c) (all_scalars cs) h in
    by (is_lf c) (scalars-lines_of cs parts.1)
    (scalars-onto c (lines_of cs) parts.0 (scalars-lines_of cs parts.1))
  where
    by : (b : Bool) → are_scalars (lines_of cs) ≡ true
        → are_scalars (onto_first_line c (lines_of cs)) ≡ true
        → are_scalars (cond b (ended [] ∷ lines_of cs) (onto_first_line c (lines_of cs))) ≡ true
    by true e f = e
    by false e f = f
