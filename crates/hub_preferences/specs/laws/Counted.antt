-- What holds of the lines that count.
use Rattle.std.proofs.Common.{◌≡◌, ◌<◌, ⊎_elim, inl, inr, arith, length, ℕ, Bool, true, false, List, [], ◌∷◌, drop, Option, Some, None, refl, sym, ap, subst, ◌∙◌}
use Rattle.std.specs.Prelude.{if◌then◌else◌, suc}
use Rattle.std.specs.List.{list_any}
use Rattle.std.proofs.lemmas.Bool.{or_parts}
use Rattle.hub_text.specs.declared.line.Line.{Line}
use Rattle.hub_text.specs.Lines.{is_lf, lines_of}
use Rattle.hub_text.specs.laws.WholeLines.{AreLines, AreLines-lines_of, lines_of-text_of_lines}
use Rattle.hub_preferences.specs.Counted.{comment, spelled, spelling_in, counted_lines, counted_bundle, section_at, is_left_out, no_profile}
use Rattle.hub_preferences.specs.Spellings.{other_spelling, or_spelling}
use Rattle.hub_preferences.specs.laws.Spelling.{other_spelling-is}
use Rattle.hub_bundle.specs.Files.{is_heading}
use Rattle.hub_preferences.specs.declared.section.Section.{Section}
use Rattle.hub_path.specs.Path.{Path}
use Rattle.hub_preferences.specs.Places.{roots_in}

no_lf-drop : (cs : List ℕ) → list_any is_lf cs ≡ false → list_any is_lf (drop 1 cs) ≡ false
no_lf-drop [] h = refl
no_lf-drop (c ∷ cs) h = (or_parts (is_lf c) (list_any is_lf cs) h).1

-- A line that has another spelling is one of a profile, and no heading.
pub spelling-in : (rs : List Path) (s : Section) (l t : List ℕ) → spelling_in rs s l ≡ Some t → (s.is_profile ≡ true) × (is_heading l ≡ false) × (other_spelling rs l ≡ Some t)
spelling-in rs s l t h = by s.is_profile refl (is_heading l) refl
  where
    nothing : {X : Type 0} → None ≡ Some t → X
    nothing h = cc

    by : (a : Bool) → s.is_profile ≡ a → (b : Bool) → is_heading l ≡ b → (s.is_profile ≡ true) × (is_heading l ≡ false) × (other_spelling rs l ≡ Some t)
    by true e false f =
        let whole : spelling_in rs s l ≡ other_spelling rs l = rw (e, f) refl in
        (e, f, sym whole ∙ h)
    by true e true f =
        let whole : spelling_in rs s l ≡ None = rw (e, f) refl in
        nothing (sym whole ∙ h)
    by false e b f =
        let whole : spelling_in rs s l ≡ None = rw e refl in
        nothing (sym whole ∙ h)

counted-nil : (rs : List Path) (s : Section) (ls : List (Line (List ℕ))) → ls ≡ [] → counted_lines rs s ls ≡ []
counted-nil rs s ls e = ap (counted_lines rs s) e

-- A line, and lines in the place of those below it.
AreLines-comment : (l : Line (List ℕ)) (ls ms : List (Line (List ℕ))) → AreLines (l ∷ ls) → (ls ≡ [] → ms ≡ []) → AreLines ms → AreLines (comment l ∷ ms)
AreLines-comment l ls ms a empty more = (
  no_lf-drop l.text a.0,
  ⊎_elim (λ e. inl e) (λ last. inr (last.0, empty last.1, omega arith)) a.1,
  more,
)

AreLines-spelled : (rs : List Path) (s : Section) (l : Line (List ℕ)) (ls ms : List (Line (List ℕ))) → AreLines (l ∷ ls) → (ls ≡ [] → ms ≡ []) → AreLines ms → AreLines (spelled rs s l ∷ ms)
AreLines-spelled rs s l ls ms a empty more = by (spelling_in rs s l.text) refl
  where
    with_text : (t : List ℕ) → list_any is_lf t ≡ false → (0 < length l.text → 0 < length t) → AreLines (record { text = t; is_ended = l.is_ended } ∷ ms)
    with_text t none some = (none, ⊎_elim (λ e. inl e) (λ last. inr (last.0, empty last.1, some last.2)) a.1, more)

    by : (o : Option (List ℕ)) → spelling_in rs s l.text ≡ o → AreLines (spelled rs s l ∷ ms)
    by None h = subst (λ o. AreLines (record { text = or_spelling o l.text; is_ended = l.is_ended } ∷ ms)) (sym h)
        (with_text l.text a.0 (λ some. some))
    by (Some t) h =
        let is = other_spelling-is rs l.text t (spelling-in rs s l.text t h).2 in
        subst (λ o. AreLines (record { text = or_spelling o l.text; is_ended = l.is_ended } ∷ ms)) (sym h)
        (with_text t is.no_lf (λ some. is.some))

AreLines-with : (rs : List Path) (s : Section) (l : Line (List ℕ)) (ls ms : List (Line (List ℕ))) (b : Bool) → AreLines (l ∷ ls) → (ls ≡ [] → ms ≡ []) → AreLines ms → AreLines ((if b then comment l else spelled rs s l) ∷ ms)
AreLines-with rs s l ls ms true a empty more = AreLines-comment l ls ms a empty more
AreLines-with rs s l ls ms false a empty more = AreLines-spelled rs s l ls ms a empty more

pub AreLines-counted : (rs : List Path) (s : Section) (ls : List (Line (List ℕ))) → AreLines ls → AreLines (counted_lines rs s ls)
AreLines-counted rs s [] a = tt
AreLines-counted rs s (l ∷ ls) a =
    let t = section_at rs s l.text ls in
    AreLines-with rs t l ls (counted_lines rs t ls) (is_left_out rs t l.text ls) a (counted-nil rs t ls) (AreLines-counted rs t ls a.2)

-- The lines that count are those of the bundle that counts.
pub lines_of-counted_bundle : (bytes : List ℕ) → lines_of (counted_bundle bytes) ≡ counted_lines (roots_in bytes) no_profile (lines_of bytes)
lines_of-counted_bundle bytes =
    lines_of-text_of_lines (counted_lines (roots_in bytes) no_profile (lines_of bytes)) (AreLines-counted (roots_in bytes) no_profile (lines_of bytes) (AreLines-lines_of bytes))

pub length-counted_lines : (rs : List Path) (s : Section) (ls : List (Line (List ℕ))) → length (counted_lines rs s ls) ≡ length ls
length-counted_lines rs s [] = refl
length-counted_lines rs s (l ∷ ls) = ap suc (length-counted_lines rs (section_at rs s l.text ls) ls)

pub length-lines_of-counted_bundle : (bytes : List ℕ) → length (lines_of (counted_bundle bytes)) ≡ length (lines_of bytes)
length-lines_of-counted_bundle bytes = ap length (lines_of-counted_bundle bytes) ∙ length-counted_lines (roots_in bytes) no_profile (lines_of bytes)
