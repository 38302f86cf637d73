-- The sections of a bundle, one more at a time.
use Rattle.std.proofs.Common.{◌≡◌, true, ℕ, ◌+◌, List, [], ◌∷◌, ◌++◌, Result, Ok, Err, refl, sym, ap, ◌∙◌}
use Rattle.hub_text.specs.declared.line.Line.{Line}
use Rattle.hub_text.specs.Lines.{lines_of, without_last_cr}
use Rattle.hub_bundle.specs.declared.bundle.Heading.{Heading}
use Rattle.hub_bundle.specs.declared.bundle.BundleFault.{BundleFault}
use Rattle.hub_bundle.specs.declared.bundle.BundleLineFault.{BundleLineFault}
use Rattle.hub_bundle.specs.Bundle.{SectionValue, Written, follows_section, bytes_before_heading, written, heading_reading, heading_below, after_heading, sections_reading}
use Rattle.hub_bundle.proofs.Lines.{heading_line}
use Rattle.hub_bundle.specs.Files.{is_heading}

-- A line that is left after a section is a heading.
next_heading : (s t : List ℕ) (l : Line (List ℕ)) → lines_of s ≡ l ∷ lines_of t → follows_section s ≡ true → is_heading l.text ≡ true
next_heading [] t l e h = cc
next_heading (b ∷ s) t l e h = heading_line (b ∷ s) t l e ∙ h

-- The first section, by the line of its heading and the bytes below.
abbrev section_at : ℕ → Line (List ℕ) → List ℕ → Written
section_at n l t = record { line = n; heading = without_last_cr l.text; bytes = bytes_before_heading (lines_of t) }

written-heading : (n : ℕ) (s t : List ℕ) (l : Line (List ℕ)) → lines_of s ≡ l ∷ lines_of t → follows_section s ≡ true → written n (lines_of s) ≡ section_at n l t ∷ written (n + 1) (lines_of t)
written-heading n s t l e h = ap (written n) e ∙ rw (next_heading s t l e h) refl

-- The reading, one section on.
pub one_section_more : (ss : List SectionValue) (n m k : ℕ) (s t u bytes : List ℕ) (l : Line (List ℕ)) (h : Heading) → lines_of s ≡ l ∷ lines_of t → follows_section s ≡ true
    → heading_below ss (heading_reading (without_last_cr l.text)) ≡ Ok h → bytes ≡ bytes_before_heading (lines_of t) → ((i : ℕ) → written i (lines_of t) ≡ written (i + k) (lines_of u)) → m ≡ n + 1 + k
    → sections_reading ss (written n (lines_of s)) ≡ sections_reading (ss ++ record { heading = h; bytes = bytes } ∷ []) (written m (lines_of u))
one_section_more ss n m k s t u bytes l h e begins says front back moved =
    let w = section_at n l t in
    let later : SectionValue → Result (List SectionValue) BundleLineFault = λ v. sections_reading (ss ++ v ∷ []) (written (n + 1) (lines_of t)) in
    ap (sections_reading ss) (written-heading n s t l e begins) ∙ ap (λ r. after_heading w r later) says
    ∙ ap (λ b. sections_reading (ss ++ record { heading = h; bytes = b } ∷ []) (written (n + 1) (lines_of t))) (sym front)
    ∙ ap (sections_reading (ss ++ record { heading = h; bytes = bytes } ∷ [])) (back (n + 1) ∙ ap (λ i. written i (lines_of u)) (sym moved))

pub faulty_section : (ss : List SectionValue) (n : ℕ) (s t : List ℕ) (l : Line (List ℕ)) (f : BundleFault) → lines_of s ≡ l ∷ lines_of t → follows_section s ≡ true
    → heading_below ss (heading_reading (without_last_cr l.text)) ≡ Err f → sections_reading ss (written n (lines_of s)) ≡ Err (record { line = n; fault = f })
faulty_section ss n s t l f e begins says =
    let w = section_at n l t in
    let later : SectionValue → Result (List SectionValue) BundleLineFault = λ v. sections_reading (ss ++ v ∷ []) (written (n + 1) (lines_of t)) in
    ap (sections_reading ss) (written-heading n s t l e begins) ∙ ap (λ r. after_heading w r later) says
