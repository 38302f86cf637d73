-- The lines of a text, and of a text that is made of lines.
use Rattle.std.proofs.Common.{◌≡◌, ◌<◌, ◌⊎◌, ⊎_elim, inl, inr, arith, length, ℕ, Bool, true, false, cond, List, [], ◌∷◌, ◌++◌, refl, sym, ap, ◌∙◌, append_assoc}
use Rattle.std.specs.Prelude.{⊤, if◌then◌else◌}
use Rattle.std.specs.List.{list_any}
use Rattle.std.proofs.lemmas.Bool.{or_parts, or_from}
use Rattle.std.proofs.lemmas.List.{append-nil}
use Rattle.hub_text.specs.declared.line.Line.{Line}
use Rattle.hub_text.specs.Lines.{is_lf, lines_of, onto_first_line, ended, unended, text_of_lines}
use Rattle.hub_text.specs.laws.Line.{lines_of-ended}

-- Lines as those of a text: none has an LF inside, and each but the last one is ended. A last one
-- that isn't ended isn't empty.
abbrev pub IsLast : Line (List ℕ) → List (Line (List ℕ)) → Type 0
IsLast l ls = (l.is_ended ≡ false) × (ls ≡ []) × (0 < length l.text)

abbrev pub AreLines : List (Line (List ℕ)) → Type 0
AreLines [] = ⊤
AreLines (l ∷ ls) = (list_any is_lf l.text ≡ false) × ((l.is_ended ≡ true) ⊎ IsLast l ls) × AreLines ls

AreLines-onto : (c : ℕ) (ls : List (Line (List ℕ))) → is_lf c ≡ false → AreLines ls → AreLines (onto_first_line c ls)
AreLines-onto c [] h a = (or_from (is_lf c) false h refl, inr (refl, refl, omega arith), tt)
AreLines-onto c (l ∷ ls) h a = (
  or_from (is_lf c) (list_any is_lf l.text) h a.0,
  ⊎_elim (λ e. inl e) (λ last. inr (last.0, last.1, omega arith)) a.1,
  a.2,
)

pub AreLines-lines_of : (cs : List ℕ) → AreLines (lines_of cs)
AreLines-lines_of [] = tt
AreLines-lines_of (c ∷ cs) = by (is_lf c) refl (AreLines-lines_of cs)
  where
    by : (b : Bool) → is_lf c ≡ b → AreLines (lines_of cs)
        → AreLines (cond b (ended [] ∷ lines_of cs) (onto_first_line c (lines_of cs)))
    by true h more = (refl, inl refl, more)
    by false h more = AreLines-onto c (lines_of cs) h more

lines_of-unended : (l : List ℕ) → list_any is_lf l ≡ false → 0 < length l → lines_of l ≡ unended l ∷ []
lines_of-unended [] h some = absurd (omega (arith, some))
lines_of-unended (c ∷ []) h some = rw (or_parts (is_lf c) false h).0 refl
lines_of-unended (c ∷ d ∷ cs) h some =
    let none = or_parts (is_lf c) (list_any is_lf (d ∷ cs)) h in
    rw none.0 (ap (onto_first_line c) (lines_of-unended (d ∷ cs) none.1 (omega arith)))

-- The lines of the text of such lines.
pub lines_of-text_of_lines : (ls : List (Line (List ℕ))) → AreLines ls → lines_of (text_of_lines ls) ≡ ls
lines_of-text_of_lines [] a = refl
lines_of-text_of_lines (l ∷ ls) a = ⊎_elim
    (λ e. (λ i. lines_of ((if (e i) then l.text ++ 10 ∷ [] else l.text) ++ text_of_lines ls))
    ∙ ap lines_of (append_assoc l.text (10 ∷ []) (text_of_lines ls))
    ∙ lines_of-ended l.text (text_of_lines ls) a.0
    ∙ (λ i. record { text = l.text; is_ended = sym e i } ∷ lines_of-text_of_lines ls a.2 i))
    (λ last. (λ i. lines_of ((if (last.0 i) then l.text ++ 10 ∷ [] else l.text) ++ text_of_lines (last.1 i)))
    ∙ ap lines_of (append-nil l.text)
    ∙ lines_of-unended l.text a.0 last.2
    ∙ (λ i. record { text = l.text; is_ended = sym last.0 i } ∷ sym last.1 i))
    a.1
