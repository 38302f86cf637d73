-- Where the rows of the program's table stand.
use Rattle.std.proofs.Common.{◌≡◌, ◌==◌, ◌≤◌, ◌<◌, ℕ, zero, suc, arith, Bool, true, false, ◌&&◌, List, [], ◌∷◌, map, length, get_or, refl, ap, ◌∙◌, bytes_eq, subst, inl, inr, ◌⊎◌, Result, Ok, Err}
use Rattle.std.specs.Prelude.{nat_lt, slice_index, if◌then◌else◌}
use Rattle.std.specs.List.{list_all}
use Rattle.std.proofs.lemmas.Bool.{and_parts}
use Rattle.std.proofs.lemmas.Bool.Decides.{nat_tests}
use Rattle.std.proofs.lemmas.List.{length-map}
use Rattle.std.proofs.lemmas.List.Sorted.{searched}
use Rattle.std.specs.List.Sorted.{IsBinarySearchResult}
use Rattle.std.specs.Ordering.{nat_cmp}
use Rattle.std.proofs.lemmas.Slice.Eq.{bytes_eq-Decides}
use Rattle.hub_folded.specs.Row.{Row}
use Rattle.hub_folded.specs.Rows.{rows}
use Rattle.hub_folded.specs.Table.{by_rows, image_in, table_image}
use Rattle.hub_folded.specs.declared.marks.TheConstants.{SECOND, THIRD, FOURTH}
use Rattle.hub_folded.specs.declared.table.TheConstants.{CHARACTERS, FIRST}

-- Numbers that rise.
abbrev rises : List ℕ → Bool
rises [] = true
rises (a ∷ []) = true
rises (a ∷ b ∷ xs) = nat_lt a b && rises (b ∷ xs)

below : (a b : ℕ) → nat_lt a b ≡ true → a < b
below a b h = grind (arith, nat_tests)

first-below : (a : ℕ) (xs : List ℕ) (n : ℕ) → rises (a ∷ xs) ≡ true → n < length xs
    → a < get_or xs n 0
first-below a [] n h l = absurd (omega (arith, l))
first-below a (b ∷ xs) zero h l = below a b (and_parts (nat_lt a b) (rises (b ∷ xs)) h).0
first-below a (b ∷ xs) (suc n) h l =
    let parts = and_parts (nat_lt a b) (rises (b ∷ xs)) h in
    let here : a < b = below a b parts.0 in
    let there : b < get_or xs n 0 = first-below b xs n parts.1 (omega (arith, l)) in
    omega (arith, here, there)

rest-rises : (a : ℕ) (xs : List ℕ) → rises (a ∷ xs) ≡ true → rises xs ≡ true
rest-rises a [] h = refl
rest-rises a (b ∷ xs) h = (and_parts (nat_lt a b) (rises (b ∷ xs)) h).1

rising : (xs : List ℕ) → rises xs ≡ true → (i j : ℕ) → i ≤ j → j < length xs
    → get_or xs i 0 ≤ get_or xs j 0
rising [] h i j le l = absurd (omega (arith, l))
rising (a ∷ xs) h zero zero le l = omega arith
rising (a ∷ xs) h zero (suc j) le l =
    let there : a < get_or xs j 0 = first-below a xs j h (omega (arith, l)) in omega (arith, there)
rising (a ∷ xs) h (suc i) zero le l = absurd (omega (arith, le))
rising (a ∷ xs) h (suc i) (suc j) le l =
    rising xs (rest-rises a xs h) i j (omega (arith, le)) (omega (arith, l))

-- Rows whose characters rise.
abbrev of_all : List Row → List ℕ
of_all rs = map (λ r. r.of) rs

same-number : (a b : ℕ) → a ≡ b → (a == b) ≡ true
same-number a b e = grind (arith, nat_tests)

other-number : (a b : ℕ) → a < b → (a == b) ≡ false
other-number a b l = grind (arith, nat_tests)

by-place : (rs : List Row) (c n : ℕ) → rises (of_all rs) ≡ true → n < length rs
    → get_or (of_all rs) n 0 ≡ c → by_rows rs c ≡ get_or (map (λ r. r.to) rs) n []
by-place [] c n h l e = absurd (omega (arith, l))
by-place (r ∷ rs) c zero h l e =
    ap (λ b. if b then r.to else by_rows rs c) (same-number r.of c e)
by-place (r ∷ rs) c (suc n) h l e =
    let more : r.of < get_or (of_all rs) n 0 =
    first-below r.of (of_all rs) n h (omega (arith, l, length-map rs (λ (r : Row). r.of))) in
    let less : r.of < c = omega (arith, more, e) in
    ap (λ b. if b then r.to else by_rows rs c) (other-number r.of c less)
    ∙ by-place rs c n (rest-rises r.of (of_all rs) h) (omega (arith, l)) e

by-absent : (rs : List Row) (c : ℕ)
    → ((k : ℕ) → k < length rs → get_or (of_all rs) k 0 ≡ c → ⊥) → by_rows rs c ≡ c ∷ []
by-absent [] c none = refl
by-absent (r ∷ rs) c none =
    go (r.of == c) refl (by-absent rs c (λ k l e. none (suc k) (omega (arith, l)) e))
  where
    same : (a b : ℕ) → (a == b) ≡ true → a ≡ b
    same a b e = grind (arith, nat_tests)

    go : (b : Bool) → (r.of == c) ≡ b → by_rows rs c ≡ c ∷ []
        → (if b then r.to else by_rows rs c) ≡ c ∷ []
    go true e rest = absurd (none zero (omega arith) (same r.of c e))
    go false e rest = rest

-- The columns of rows, with 0 for none.
abbrev pub column : ℕ → List Row → List ℕ
column n rs = map (λ r. slice_index r.to n) rs

abbrev four : ℕ → List Row → List ℕ
four n rs =
    get_or (column 0 rs) n 0 ∷ get_or (column 1 rs) n 0 ∷ get_or (column 2 rs) n 0
    ∷ get_or (column 3 rs) n 0 ∷ []

abbrev fits : Row → Bool
fits r =
    bytes_eq r.to (image_in (slice_index r.to 0 ∷ slice_index r.to 1 ∷ slice_index r.to 2
    ∷ slice_index r.to 3 ∷ []))

columns : (rs : List Row) → list_all fits rs ≡ true → (n : ℕ) → n < length rs
    → get_or (map (λ r. r.to) rs) n [] ≡ image_in (four n rs)
columns [] all n l = absurd (omega (arith, l))
columns (r ∷ rs) all zero l =
    (bytes_eq-Decides r.to (image_in (four 0 (r ∷ rs)))).0 (and_parts (fits r) (list_all fits rs) all).0
columns (r ∷ rs) all (suc n) l =
    columns rs (and_parts (fits r) (list_all fits rs) all).1 n (omega (arith, l))

-- The program's table has the rows of the specification.
found : (c n : ℕ) → n < length CHARACTERS → get_or CHARACTERS n 0 ≡ c
    → by_rows rows c
    ≡ image_in (get_or FIRST n 0 ∷ get_or SECOND n 0 ∷ get_or THIRD n 0 ∷ get_or FOURTH n 0 ∷ [])
found c n l e = by-place rows c n refl l e ∙ columns rows refl n l

abbrev pub Searched : ℕ → Result ℕ ℕ → Type 0
Searched c r = IsBinarySearchResult (λ y. nat_cmp y c) CHARACTERS r

pub to-found : (c i : ℕ) (r : Result ℕ ℕ) → Searched c r → r ≡ Ok i
    → (i < length rows) × (table_image c ≡ get_or (map (λ r. r.to) rows) i [])
unfolding table_image
to-found c i r position is =
    let at = searched CHARACTERS c (Ok i) (subst (Searched c) is position) (rising CHARACTERS refl) in
    (at.0, by-place rows c i refl at.0 at.1)

pub found-by : (c i : ℕ) (r : Result ℕ ℕ) → Searched c r → r ≡ Ok i
    → table_image c
    ≡ image_in (get_or FIRST i 0 ∷ get_or SECOND i 0 ∷ get_or THIRD i 0 ∷ get_or FOURTH i 0 ∷ [])
unfolding table_image
found-by c i r position is =
    let at = searched CHARACTERS c (Ok i) (subst (Searched c) is position) (rising CHARACTERS refl) in
    found c i at.0 at.1

pub absent-by : (c i : ℕ) (r : Result ℕ ℕ) → Searched c r → r ≡ Err i → table_image c ≡ c ∷ []
unfolding table_image
absent-by c i r position is =
    let at = searched CHARACTERS c (Err i) (subst (Searched c) is position) (rising CHARACTERS refl) in
    by-absent rows c (λ k l e. go k l e at.1 at.2 (less k i))
  where
    less : (k i : ℕ) → (k < i) ⊎ (i ≤ k)
    less k zero = inr (omega arith)
    less zero (suc i) = inl (omega arith)
    less (suc k) (suc i) = go' (less k i)
      where
        go' : (k < i) ⊎ (i ≤ k) → (suc k < suc i) ⊎ (suc i ≤ suc k)
        go' (inl h) = inl (omega (arith, h))
        go' (inr h) = inr (omega (arith, h))

    go : (k : ℕ) → k < length CHARACTERS → get_or CHARACTERS k 0 ≡ c
        → ((k : ℕ) → k < i → get_or CHARACTERS k 0 < c)
        → ((k : ℕ) → i ≤ k → k < length CHARACTERS → c < get_or CHARACTERS k 0)
        → (k < i) ⊎ (i ≤ k) → ⊥
    go k l e below above (inl h) = let m = below k h in omega (arith, m, e)
    go k l e below above (inr h) = let m = above k h l in omega (arith, m, e)
