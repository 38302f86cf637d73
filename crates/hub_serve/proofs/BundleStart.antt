-- The text of a bundle doesn't start as that of another answer does.
use Rattle.std.proofs.Common.{◌≡◌, ◌∙◌, ◌==◌, ◌&&◌, ◌||◌, ℕ, Bool, true, false, List, [], ◌∷◌, Option, Some, None, Result, Ok, Err, refl, sym, ap, ap₂, subst}
use Rattle.std.specs.Prelude.{if◌then◌else◌, ⊤}
use Rattle.std.specs.List.{list_all}
use Rattle.std.proofs.lemmas.Bool.{eqb-true}
use Rattle.hub_text.specs.declared.line.Line.{Line}
use Rattle.hub_text.specs.Lines.{lines_of, onto_first_line}
use Rattle.hub_bundle.specs.declared.sections.BundleContents.{BundleContents}
use Rattle.hub_bundle.specs.Bundle.{SectionValue, bundle_reading, is_ignorable, sections_reading, stray_line, unless_stray, written}
use Rattle.hub_bundle.specs.Sections.{Spells}
use Rattle.hub_report.specs.laws.Starts.{OtherStart, start}

-- A text that begins with this letter.
at : (b n : ℕ) (bs : List ℕ) → (b == n) ≡ true → start (n ∷ bs) ≡ OtherStart → start (b ∷ bs) ≡ OtherStart
at b n bs e h = subst (λ k. start (k ∷ bs) ≡ OtherStart) (sym (eqb-true b n e)) h

first_of : (n : ℕ) (heading ignorable rest : Bool) (later : Option ℕ) → heading ≡ false → ignorable ≡ false
    → (if heading then None else (if ignorable && rest then later else Some n)) ≡ Some n
first_of n heading ignorable rest later h i =
    ap₂ (λ x y. if x then None else (if y && rest then later else Some n)) h i

-- A first line that begins with such a letter is neither blank nor a heading.
is-stray : (b : ℕ) (ls : List (Line (List ℕ))) → (b == 37) ≡ false → is_ignorable b ≡ false → stray_line 1 (onto_first_line b ls) ≡ Some 1
is-stray b [] h i = first_of 1 (b == 37) (is_ignorable b) true None h i
is-stray b (l ∷ ls) h i = first_of 1 (b == 37) (is_ignorable b) (list_all is_ignorable l.text) (stray_line 2 ls) h i

abbrev IsOk : {A B : Type 0} → Result A B → Type 0
IsOk (Ok x) = ⊤
IsOk (Err e) = ⊥

-- A bundle begins with none.
unspelled : (b : ℕ) (bs : List ℕ) (ss : List SectionValue) → (b == 37) ≡ false → (b == 10) ≡ false → is_ignorable b ≡ false → bundle_reading (b ∷ bs) ≡ Ok ss → ⊥
unspelled b bs ss h lf i e =
    let lines : lines_of (b ∷ bs) ≡ onto_first_line b (lines_of bs) = rw lf refl in
    let stray : stray_line 1 (lines_of (b ∷ bs)) ≡ Some 1 = ap (stray_line 1) lines ∙ is-stray b (lines_of bs) h i in
    let later = sections_reading [] (written 1 (lines_of (b ∷ bs))) in
    subst IsOk (sym e ∙ ap (λ o. unless_stray o later) stray) tt

none : (x y z : Bool) → x ≡ false → y ≡ false → z ≡ false → (x || y || z) ≡ false
none x y z e f g = λ i. e i || f i || g i

pub bundle-start : (text : List ℕ) (c : BundleContents) → Spells text c → start text ≡ OtherStart
bundle-start [] c s = refl
bundle-start (b ∷ bs) c s = heading (b == 37) refl
  where
    blank : (x y z : Bool) → (b == 37) ≡ false → (b == 10) ≡ false → (b == 32) ≡ x → (b == 9) ≡ y → (b == 13) ≡ z → start (b ∷ bs) ≡ OtherStart
    blank true y z h lf e f g = at b 32 bs e refl
    blank false true z h lf e f g = at b 9 bs f refl
    blank false false true h lf e f g = at b 13 bs g refl
    blank false false false h lf e f g =
        absurd (unspelled b bs s.sections h lf (none (b == 32) (b == 9) (b == 13) e f g) s.bundle)

    ended : (x : Bool) → (b == 37) ≡ false → (b == 10) ≡ x → start (b ∷ bs) ≡ OtherStart
    ended true h e = at b 10 bs e refl
    ended false h e = blank (b == 32) (b == 9) (b == 13) h e refl refl refl

    heading : (x : Bool) → (b == 37) ≡ x → start (b ∷ bs) ≡ OtherStart
    heading true e = at b 37 bs e refl
    heading false e = ended (b == 10) e refl
