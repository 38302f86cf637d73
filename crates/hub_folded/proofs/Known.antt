-- What is known, by the program's tables.
use Rattle.std.proofs.Common.{◌≡◌, ◌==◌, ◌<◌, ℕ, zero, suc, arith, Bool, true, false, not, ◌&&◌, ◌||◌, List, [], ◌∷◌, map, length, get_or, refl, sym, ap, ◌∙◌, Result, Ok, Err}
use Rattle.std.specs.Prelude.{slice_index}
use Rattle.std.specs.List.{list_all, list_any}
use Rattle.std.proofs.lemmas.Bool.{and_parts}
use Rattle.hub_text.specs.laws.Test.{agree, any-append, any-map, same}
use Rattle.hub_folded.specs.Fold.{knows, marks_stand}
use Rattle.hub_folded.specs.Ranges.{ranges}
use Rattle.hub_folded.specs.Row.{Range, Row}
use Rattle.hub_folded.specs.Rows.{rows}
use Rattle.hub_folded.specs.Table.{all_stand, folded_character, has_row, in_ranges, is_ascii, is_bare_letter, is_combining, is_single, is_within, knows_character, stands, table_image, unicode}
use Rattle.hub_folded.specs.declared.high.TheConstants.{HIGH_RANGES}
use Rattle.hub_folded.specs.declared.marks.TheConstants.{SECOND}
use Rattle.hub_folded.specs.declared.ranges.TheConstants.{RANGES}
use Rattle.hub_folded.specs.declared.table.TheConstants.{CHARACTERS}
use Rattle.hub_folded.proofs.Places.{Searched, absent-by, column, to-found}
use Rattle.hub_folded.proofs.Texts.{ascii-folds, other-folds}

-- Rows and ranges.
row-known : (c : ℕ) → has_row rows c ≡ list_any (λ d. d == c) CHARACTERS
row-known c = any-map (λ d. d == c) (λ (r : Row). r.of) rows

range-known : (c : ℕ) → in_ranges ranges c
    ≡ (list_any (λ g. is_within g c) RANGES || list_any (λ g. is_within g c) HIGH_RANGES)
range-known c =
    any-map (λ g. is_within g c) (λ (g : Range). (g.first, g.last)) ranges
    ∙ sym (any-append (λ g. is_within g c) RANGES HIGH_RANGES)

pub ascii-known : (c : ℕ) → is_ascii c ≡ true → true ≡ knows_character c
unfolding knows_character
ascii-known c h = sym (ap (λ b. b || (has_row rows c || in_ranges ranges c)) h)

pub other-known : (c : ℕ) → is_ascii c ≡ false → (list_any (λ d. d == c) CHARACTERS
    || (list_any (λ g. is_within g c) RANGES || list_any (λ g. is_within g c) HIGH_RANGES))
    ≡ knows_character c
unfolding knows_character
other-known c h =
    sym (ap (λ b. b || (has_row rows c || in_ranges ranges c)) h
    ∙ (λ i. row-known c i || range-known c i))

-- Letters that fold to one character.
abbrev single_fits : Row → Bool
single_fits r = agree (slice_index r.to 1 == 0) (length r.to == 1)

singles : (rs : List Row) → list_all single_fits rs ≡ true → (n : ℕ) → n < length rs
    → (get_or (column 1 rs) n 0 == 0) ≡ (length (get_or (map (λ r. r.to) rs) n []) == 1)
singles [] all n l = absurd (omega (arith, l))
singles (r ∷ rs) all zero l =
    same (slice_index r.to 1 == 0) (length r.to == 1)
    (and_parts (single_fits r) (list_all single_fits rs) all).0
singles (r ∷ rs) all (suc n) l =
    singles rs (and_parts (single_fits r) (list_all single_fits rs) all).1 n (omega (arith, l))

pub single-found : (c i : ℕ) (r : Result ℕ ℕ) → is_ascii c ≡ false → Searched c r → r ≡ Ok i
    → (get_or SECOND i 0 == 0) ≡ is_single c
unfolding is_single
single-found c i r other position is =
    let at = to-found c i r position is in
    singles rows refl i at.0
    ∙ ap (λ t. length t == 1) (sym (other-folds c other ∙ at.1))

pub single-absent : (c i : ℕ) (r : Result ℕ ℕ) → is_ascii c ≡ false → Searched c r → r ≡ Err i
    → true ≡ is_single c
unfolding is_single
single-absent c i r other position is =
    ap (λ t. length t == 1) (sym (other-folds c other ∙ absent-by c i r position is))

pub single-ascii : (c : ℕ) → is_ascii c ≡ true → true ≡ is_single c
unfolding is_single
single-ascii c h = ap (λ t. length t == 1) (sym (ascii-folds c h))

-- Names.
four-parts : (a b c d : Bool) → ((a && b) && (c && d)) ≡ ((a && c) && (b && d))
four-parts true true c d = refl
four-parts true false true d = refl
four-parts true false false d = refl
four-parts false b c d = refl

abbrev by_marks : Bool → List ℕ → Bool
by_marks bare [] = true
by_marks bare (c ∷ n) = (not (is_combining c) || bare) && by_marks (is_bare_letter c) n

stand-all : (bare : Bool) (n : List ℕ)
    → all_stand bare n ≡ (list_all knows_character n && by_marks bare n)
stand-all bare [] = refl
stand-all bare (c ∷ n) =
    ap (λ b. stands c bare && b) (stand-all (is_bare_letter c) n)
    ∙ sym (four-parts (knows_character c) (list_all knows_character n) (not (is_combining c) || bare)
    (by_marks (is_bare_letter c) n))

marks-same : (bare : Bool) (n : List ℕ) → by_marks bare n ≡ marks_stand unicode bare n
unfolding is_single folded_character table_image
marks-same bare [] = refl
marks-same bare (c ∷ n) =
    ap (λ b. (not (is_combining c) || bare) && b) (marks-same (is_bare_letter c) n)

pub knows-same : (n : List ℕ) → all_stand false n ≡ knows unicode n
unfolding knows_character
knows-same n =
    stand-all false n ∙ ap (λ b. list_all knows_character n && b) (marks-same false n)

pub next-stands : (c : ℕ) (bare : Bool) (old more : List ℕ) (whole : Bool) → old ≡ c ∷ more
    → stands c bare ≡ true → all_stand bare old ≡ whole → all_stand (is_bare_letter c) more ≡ whole
next-stands c bare old more whole e h k =
    sym (ap (λ b. b && all_stand (is_bare_letter c) more) h) ∙ (sym (ap (all_stand bare) e) ∙ k)

pub one-fails : (c : ℕ) (bare : Bool) (old more : List ℕ) (whole : Bool) → old ≡ c ∷ more
    → stands c bare ≡ false → all_stand bare old ≡ whole → false ≡ whole
one-fails c bare old more whole e h k =
    sym (ap (λ b. b && all_stand (is_bare_letter c) more) h) ∙ (sym (ap (all_stand bare) e) ∙ k)

pub none-left : (bare : Bool) (old : List ℕ) (whole : Bool) → old ≡ []
    → all_stand bare old ≡ whole → true ≡ whole
none-left bare old whole e k = sym (ap (all_stand bare) e) ∙ k
