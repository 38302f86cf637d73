-- Lines that stay, and bundles without a line to leave out.
use Rattle.std.proofs.Common.{◌≡◌, ℕ, Bool, true, false, ◌&&◌, List, [], ◌∷◌, refl, ap, ◌∙◌}
use Rattle.std.specs.Prelude.{Option, Some, None, is_some, if◌then◌else◌}
use Rattle.std.proofs.lemmas.Bool.{or_parts, or_from}
use Rattle.hub_bundle.specs.Files.{is_heading}
use Rattle.hub_text.specs.declared.line.Line.{Line}
use Rattle.hub_text.specs.Lines.{lines_of, text_of_lines}
use Rattle.hub_text.specs.laws.Line.{text_of_lines-lines_of}
use Rattle.hub_preferences.specs.Counted.{comment, spelled, spelling_in, changes, changes_some, counted_line, counted_lines, counted_bundle, section_at, is_left_out, no_profile}
use Rattle.hub_path.specs.Path.{Path}
use Rattle.hub_preferences.specs.Places.{roots_in}
use Rattle.hub_preferences.specs.Spellings.{or_spelling, other_spelling}
use Rattle.hub_preferences.specs.declared.section.Section.{Section}

none_if : (o : Option (List ℕ)) → is_some o ≡ false → o ≡ None
none_if None h = refl
none_if (Some t) h = cc

pub stands : (rs : List Path) (s : Section) (l : Line (List ℕ)) (below : List (Line (List ℕ))) → changes rs s l.text below ≡ false → counted_line rs s l below ≡ l
stands rs s l below h =
    let parts = or_parts (is_left_out rs s l.text below) (is_some (spelling_in rs s l.text)) h in
    let none = none_if (spelling_in rs s l.text) parts.1 in
    (λ i. if (parts.0 i) then comment l else spelled rs s l)
    ∙ (λ i. record { text = or_spelling (none i) l.text; is_ended = l.is_ended })

pub and_none : (b : Bool) → b && false ≡ false
and_none true = refl
and_none false = refl

pub heading_stays : (rs : List Path) (s : Section) (l : List ℕ) (below : List (Line (List ℕ))) → is_heading l ≡ true → is_left_out rs s l below ≡ false
heading_stays rs s l below h = rw h (and_none s.is_profile)

pub heading_same : (rs : List Path) (s : Section) (l : List ℕ) (below : List (Line (List ℕ))) → is_heading l ≡ true → changes rs s l below ≡ false
heading_same rs s l below h =
    let none : spelling_in rs s l ≡ None = rw h (λ i. if (and_none s.is_profile i) then other_spelling rs l else None) in
    or_from (is_left_out rs s l below) (is_some (spelling_in rs s l)) (heading_stays rs s l below h) (ap is_some none)

pub other_same : (rs : List Path) (s : Section) (l : List ℕ) (below : List (Line (List ℕ))) → s.is_profile ≡ false → changes rs s l below ≡ false
other_same rs s l below h = rw h refl

counted_lines-none : (rs : List Path) (s : Section) (ls : List (Line (List ℕ))) → changes_some rs s ls ≡ false → counted_lines rs s ls ≡ ls
counted_lines-none rs s [] h = refl
counted_lines-none rs s (l ∷ ls) h =
    let t = section_at rs s l.text ls in
    let parts = or_parts (changes rs t l.text ls) (changes_some rs t ls) h in
    λ i. stands rs t l ls parts.0 i ∷ counted_lines-none rs t ls parts.1 i

pub counted_bundle-none : (bytes : List ℕ) → changes_some (roots_in bytes) no_profile (lines_of bytes) ≡ false → counted_bundle bytes ≡ bytes
counted_bundle-none bytes h = ap text_of_lines (counted_lines-none (roots_in bytes) no_profile (lines_of bytes) h) ∙ text_of_lines-lines_of bytes
