-- What the code makes of a profile that is said from above.
use Rattle.std.proofs.Common.{◌≡◌, ◌≢◌, ◌==◌, ◌<◌, ◌+◌, ℕ, suc, zero, arith, Bool, true, false, ◌&&◌, ◌||◌, List, [], ◌∷◌, ◌++◌, length, map, take, drop, get_or, Option, Some, None, refl, sym, ap, ◌∙◌, append_assoc, add-one, ne_eqb}
use Rattle.std.specs.Prelude.{slice_get, chars, encode_utf8_all, if◌then◌else◌}
use Rattle.std.specs.List.{list_all}
use Rattle.std.proofs.Math.Bool.{and-false}
use Rattle.std.proofs.lemmas.List.{map-id, map_more, take_more}
use Rattle.std.proofs.lemmas.List.Folds.{list_all-append}
use Rattle.std.proofs.lemmas.Option.{none-some, same_Some}
use Rattle.std.proofs.lemmas.Str.{chars-encodes}
use Rattle.hub_path.specs.Path.{Name, Path, is_place, text_of}
use Rattle.hub_path.specs.declared.side.Side.{Side}
use Rattle.hub_path.specs.laws.Text.{scalars-text}
use Rattle.hub_glob.specs.Specification.{Specification}
use Rattle.hub_glob.specs.laws.OneStep.{nonzero}
use Rattle.hub_profile.specs.Parts.{Parts}
use Rattle.hub_profile.specs.declared.partial.Partial.{Partial}
use Rattle.hub_unison.specs.ReadingOf.{is_read_back, read_back}
use Rattle.hub_nested.specs.Lifted.{all_bars, are_said, can_be_below, can_be_said, fixed_at, just, lifted_spec, only_below, said_from, said_spec}
use Rattle.hub_nested.specs.Said.{both_fixed, fixed_top, is_top_said, said_bar, spared_top, with_said}
use Rattle.hub_nested.proofs.Reaching.{said-lifted}

module _ {X : Type 0} where
  no : {x : X} → None ≡ Some x → ⊥
  no i = cc

  -- What a test gives or leaves out.
  pub some-if : (b : Bool) (x y : X) (o : Option X) → o ≡ Some y → o ≡ (if b then Some x else None)
      → (b ≡ true) × (y ≡ x)
  some-if true x y o is e = let some : Some y ≡ Some x = sym is ∙ e in (refl, cc)
  some-if false x y o is e = absurd (no (sym e ∙ is))

  pub none-if : (b : Bool) (x : X) (o : Option X) → o ≡ None → o ≡ (if b then Some x else None) → b ≡ false
  none-if true x o is e = absurd (no (sym is ∙ e))
  none-if false x o is e = refl

  pub leaves : (b : Bool) (x : X) → b ≡ false → None ≡ (if b then Some x else None)
  leaves b x h = ap (λ c. if c then Some x else None) (sym h)

  -- One item more.
  pub not-all : (p : X → Bool) (xs : List X) (i : ℕ) (x : X) → i < length xs → x ≡ get_or xs i x → p x ≡ false
      → list_all p xs ≡ false
  not-all p [] i x l e h = absurd (omega arith)
  not-all p (y ∷ xs) zero x l e h = ap (λ b. b && list_all p xs) (ap p (sym e) ∙ h)
  not-all p (y ∷ xs) (suc i) x l e h =
      ap (λ b. p y && b) (not-all p xs i x (omega arith) e h) ∙ and-false (p y)

  pub all-more : (p : X → Bool) (xs : List X) (i : ℕ) (x : X) → i < length xs → x ≡ get_or xs i x
      → list_all p (take i xs) ≡ true → p x ≡ true → list_all p (take (i + 1) xs) ≡ true
  all-more p xs i x l e h k =
      ap (list_all p) (take_more xs i x l ∙ ap (λ y. take i xs ++ y ∷ []) (sym e))
      ∙ (list_all-append p (take i xs) (x ∷ []) ∙ (λ j. h j && (k j && true)))

  -- One name more.
  taken : (xs : List X) (i : ℕ) (x : X) → slice_get xs i ≡ Some x → take (suc i) xs ≡ take i xs ++ x ∷ []
  taken [] i x e = absurd (none-some x e)
  taken (y ∷ xs) zero x e = ap (λ z. z ∷ []) (same_Some y x e)
  taken (y ∷ xs) (suc i) x e = ap (λ zs. y ∷ zs) (taken xs i x e)

  dropped : (xs : List X) (i : ℕ) (x : X) → slice_get xs i ≡ Some x → drop i xs ≡ x ∷ drop (suc i) xs
  dropped [] i x e = absurd (none-some x e)
  dropped (y ∷ xs) zero x e = ap (λ z. z ∷ xs) (same_Some y x e)
  dropped (y ∷ xs) (suc i) x e = dropped xs i x e

pub mapped-more : {X Y : Type 0} (f : X → Y) (front : List Y) (xs : List X) (i : ℕ) (x : X) (y : Y) (old new : List Y)
    → i < length xs → x ≡ get_or xs i x → old ≡ front ++ map f (take i xs) → y ≡ f x → new ≡ old ++ y ∷ []
    → new ≡ front ++ map f (take (i + 1) xs)
mapped-more f front xs i x y old new l e before same more =
    more
    ∙ ((λ j. before j ++ (same ∙ ap f e) j ∷ [])
    ∙ (append_assoc front (map f (take i xs)) (f (get_or xs i x) ∷ [])
    ∙ ap (λ ys. front ++ ys) (sym (map_more f xs i x l))))

pub named-more : (front path whole next : Path) (i : ℕ) (n m : Name) → whole ≡ front ++ take i path → slice_get path i ≡ Some n → m ≡ n
    → next ≡ whole ++ m ∷ [] → next ≡ front ++ take (i + 1) path
named-more front path whole next i n m so at same h =
    h ∙ (ap (λ p. p ++ m ∷ []) so ∙ (append_assoc front (take i path) (m ∷ [])
    ∙ (ap (λ x. front ++ (take i path ++ x ∷ [])) same
    ∙ sym (ap (λ p. front ++ p) (ap (λ k. take k path) (add-one i) ∙ taken path i n at)))))

pub left-more : (path rest next whole : Path) (i : ℕ) (n m : Name) → rest ++ drop i path ≡ whole → slice_get path i ≡ Some n → m ≡ n
    → next ≡ rest ++ m ∷ [] → next ++ drop (i + 1) path ≡ whole
left-more path rest next whole i n m so at same h =
    (λ j. h j ++ drop (add-one i j) path)
    ∙ (append_assoc rest (m ∷ []) (drop (suc i) path)
    ∙ (ap (λ x. rest ++ (x ∷ drop (suc i) path)) same
    ∙ (ap (λ p. rest ++ p) (sym (dropped path i n at)) ∙ so)))

-- The characters of a path's text.
pub text-chars : (p : Path) (bs : List ℕ) → is_place p ≡ true → bs ≡ encode_utf8_all (text_of p) → chars bs ≡ text_of p
text-chars p bs h e = ap chars e ∙ chars-encodes (text_of p) (scalars-text p h)

abbrev specs_said : Path → List Specification → Bool
specs_said x ss = list_all (λ s. is_read_back (said_spec x s)) ss

abbrev bars_said : Path → List Partial → Bool
bars_said x bs = list_all (λ b. is_read_back (said_spec x b.spec)) bs

-- What is said of one path.
pub fixed-some : (side : Side) (x : Path) (spec : Specification) (o : Option Specification) → o ≡ Some spec → o ≡ read_back (just x)
    → Some (record { side = side; bars = all_bars; spec = spec }) ≡ (if is_read_back (just x) then Some (fixed_at side x) else None)
fixed-some side x spec o is e =
    let w = some-if (is_read_back (just x)) (just x) spec o is e in
    (λ i. if (sym w.0 i) then Some (record { side = side; bars = all_bars; spec = w.1 i }) else None)

some-names : (x : Path) (n : ℕ) → n ≡ length x → n ≢ 0 → (length x == 0) ≡ false
some-names x n long some = ap (λ k. k == 0) (sym long) ∙ ne_eqb n 0 some

pub top-unsaid : (x : Path) (n : ℕ) → n ≡ length x → n ≢ 0 → is_read_back (just x) ≡ false → is_top_said x ≡ false
top-unsaid x n long some h = (λ i. some-names x n long some i || h i)

pub top-spared : (x : Path) (n : ℕ) (old new : List Specification) (spec : Specification) (o : Option Specification)
    → n ≡ length x → n ≢ 0 → o ≡ Some spec → o ≡ read_back (just x) → old ≡ [] → new ≡ old ++ spec ∷ []
    → Some new ≡ (if is_top_said x then Some (spared_top x) else None)
top-spared x n old new spec o long some is e none more =
    let w = some-if (is_read_back (just x)) (just x) spec o is e in
    let named = some-names x n long some in
    (λ i. if (sym w.0 i) then Some ((more ∙ (λ j. none j ++ w.1 j ∷ [])) i) else None)
    ∙ (λ i. if (sym named i || is_read_back (just x)) then Some (if (sym named i) then [] else just x ∷ []) else None)

-- The profile of what is said.
module _ (x : Path) (P : Parts) (paths : List Path) (spared : List Specification) (bars : List Partial) where
  abbrev whole : Parts
  whole = with_said x P paths spared bars

  pub with-all : (empty own ignore own_not ignorenot : List Specification) (own_bars partial : List Partial)
      (o n : Option (List Specification)) (b : Option (List Partial)) (bare kept all : Parts)
      → empty ≡ [] → own ≡ P.ignore → own_not ≡ P.ignorenot → own_bars ≡ P.partial
      → o ≡ Some ignore → o ≡ (if specs_said x own then Some (empty ++ map (said_spec x) own) else None)
      → n ≡ Some ignorenot → n ≡ (if specs_said x own_not then Some (spared ++ map (said_spec x) own_not) else None)
      → b ≡ Some partial → b ≡ (if bars_said x own_bars then Some (bars ++ map (said_bar x) own_bars) else None)
      → bare ≡ record P { paths = [] ∷ []; ignore = []; ignorenot = []; partial = [] } → kept ≡ record bare { paths = paths }
      → all ≡ record kept { ignore = ignore; ignorenot = ignorenot; partial = partial }
      → Some all ≡ (if are_said x P then Some whole else None)
  with-all empty own ignore own_not ignorenot own_bars partial o n b bare kept all none is_own is_not is_bars o_is o_e n_is n_e b_is b_e
      is_bare is_kept is_all =
      let one = some-if (specs_said x own) (empty ++ map (said_spec x) own) ignore o o_is o_e in
      let two = some-if (specs_said x own_not) (spared ++ map (said_spec x) own_not) ignorenot n n_is n_e in
      let three = some-if (bars_said x own_bars) (bars ++ map (said_bar x) own_bars) partial b b_is b_e in
      let ignored : ignore ≡ map (said_spec x) P.ignore = one.1 ∙ (λ i. none i ++ map (said_spec x) (is_own i)) in
      let not_ignored : ignorenot ≡ spared ++ map (said_spec x) P.ignorenot = two.1 ∙ (λ i. spared ++ map (said_spec x) (is_not i)) in
      let barred : partial ≡ bars ++ map (said_bar x) P.partial = three.1 ∙ (λ i. bars ++ map (said_bar x) (is_bars i)) in
      let first : specs_said x P.ignore ≡ true = sym (ap (specs_said x) is_own) ∙ one.0 in
      let second : specs_said x P.ignorenot ≡ true = sym (ap (specs_said x) is_not) ∙ two.0 in
      let third : bars_said x P.partial ≡ true = sym (ap (bars_said x) is_bars) ∙ three.0 in
      let said : are_said x P ≡ true = (λ i. (first i && second i) && third i) in
      let made : all ≡ whole =
      is_all
      ∙ ((λ i. record (is_kept i) { ignore = ignored i; ignorenot = not_ignored i; partial = barred i })
      ∙ (λ i. record (is_bare i) {
        paths = paths;
        ignore = map (said_spec x) P.ignore;
        ignorenot = spared ++ map (said_spec x) P.ignorenot;
        partial = bars ++ map (said_bar x) P.partial;
      })) in
      ap Some made ∙ ap (λ c. if c then Some whole else None) (sym said)

-- From its own root the profile says what it says.
from-own : (P : Parts) (paths : List Path) (bars : List Partial)
    → with_said [] P paths [] bars ≡ record P { paths = paths; partial = bars ++ P.partial }
from-own P paths bars =
    (λ i. record P {
      paths = paths;
      ignore = map-id P.ignore i;
      ignorenot = map-id P.ignorenot i;
      partial = bars ++ map-id P.partial i;
    })

-- What is said of it from above.
abbrev by-length : Path → Parts → Bool → Parts
by-length x P c =
    record P {
      paths = map (λ v. x ++ v) P.paths;
      ignore = map (λ s. if c then s else lifted_spec x s) P.ignore;
      ignorenot = (if c then [] else just x ∷ []) ++ map (λ s. if c then s else lifted_spec x s) P.ignorenot;
      partial = (if c then [] else both_fixed x)
          ++ map (λ (b : Partial). record b { spec = if c then b.spec else lifted_spec x b.spec }) P.partial;
    }

pub from-above : (x : Path) (P : Parts)
    → with_said x P (map (λ v. x ++ v) P.paths) (spared_top x) (fixed_top x) ≡ said_from x P
from-above [] P = from-own P (map (λ v. v) P.paths) [] ∙ (λ i. record P { paths = map-id P.paths i })
from-above (n ∷ x) P =
    (λ i. by-length (n ∷ x) P (nonzero (length x) i)) ∙ sym (said-lifted n x P)

pub said-whole : (x : Path) (P : Parts) (paths own : List Path) (spared : List Specification) (bars : List Partial)
    (s : Option (List Specification)) (b : Option (List Partial)) (o : Option Parts)
    → own ≡ P.paths → paths ≡ map (λ v. x ++ v) own
    → s ≡ Some spared → s ≡ (if is_top_said x then Some (spared_top x) else None)
    → b ≡ Some bars → b ≡ (if is_top_said x then Some (fixed_top x) else None)
    → o ≡ (if are_said x P then Some (with_said x P paths spared bars) else None)
    → o ≡ (if can_be_said x P then Some (said_from x P) else None)
said-whole x P paths own spared bars s b o own_is below s_is s_e b_is b_e e =
    let one = some-if (is_top_said x) (spared_top x) spared s s_is s_e in
    let two = some-if (is_top_said x) (fixed_top x) bars b b_is b_e in
    let kept : paths ≡ map (λ v. x ++ v) P.paths = below ∙ (λ i. map (λ v. x ++ v) (own_is i)) in
    let made : with_said x P paths spared bars ≡ said_from x P =
    (λ i. with_said x P (kept i) (one.1 i) (two.1 i)) ∙ from-above x P in
    e ∙ (λ i. if (sym one.0 i && are_said x P) then Some (made i) else None)

pub below-whole : (x : Path) (P : Parts) (paths : List Path) (own : Path) (spared : List Specification) (bars : List Partial)
    (b : Option (List Partial)) (o : Option Parts) → own ≡ [] → spared ≡ []
    → b ≡ Some bars → b ≡ (if is_read_back (just x) then Some (both_fixed x) else None)
    → o ≡ (if are_said own P then Some (with_said own P paths spared bars) else None)
    → o ≡ (if can_be_below x P then Some (record (only_below x P) { paths = paths }) else None)
below-whole x P paths own spared bars b o own_is none b_is b_e e =
    let two = some-if (is_read_back (just x)) (both_fixed x) bars b b_is b_e in
    let made : with_said own P paths spared bars ≡ record (only_below x P) { paths = paths } =
    (λ i. with_said (own_is i) P paths (none i) (two.1 i)) ∙ from-own P paths (both_fixed x) in
    e ∙ (λ i. if (sym two.0 i && are_said (own_is i) P) then Some (made i) else None)
