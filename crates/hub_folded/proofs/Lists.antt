-- Lists, item by item.
use Rattle.std.proofs.Common.{◌≡◌, ◌<◌, ◌+◌, ℕ, suc, zero, arith, Bool, true, false, ◌&&◌, List, [], ◌∷◌, ◌++◌, cond, length, map, take, get_or, Option, Some, None, refl, sym, ap, ◌∙◌, append-nil}
use Rattle.std.specs.Prelude.{if◌then◌else◌}
use Rattle.std.specs.List.{filter, list_all}
use Rattle.std.proofs.Math.Bool.{and-false}
use Rattle.std.proofs.lemmas.List.{map_more, take_more}
use Rattle.std.proofs.lemmas.List.Folds.{list_all-append}
use Rattle.std.proofs.lemmas.List.Elements.{filter_more}

module _ {X : Type 0} where
  none-is : {x : X} → None ≡ Some x → ⊥
  none-is i = cc

  -- What a test gives or leaves out.
  pub some-if : (b : Bool) (x y : X) (o : Option X) → o ≡ Some y
      → o ≡ (if b then Some x else None) → (b ≡ true) × (y ≡ x)
  some-if true x y o is e = let some : Some y ≡ Some x = sym is ∙ e in (refl, cc)
  some-if false x y o is e = absurd (none-is (sym e ∙ is))

  pub none-if : (b : Bool) (x : X) (o : Option X) → o ≡ None → o ≡ (if b then Some x else None)
      → b ≡ false
  none-if true x o is e = absurd (none-is (sym is ∙ e))
  none-if false x o is e = refl

  pub gives : (b : Bool) (x y : X) → b ≡ true → y ≡ x → Some y ≡ (if b then Some x else None)
  gives b x y h e = ap Some e ∙ ap (λ c. if c then Some x else None) (sym h)

  pub leaves : (b : Bool) (x : X) → b ≡ false → None ≡ (if b then Some x else None)
  leaves b x h = ap (λ c. if c then Some x else None) (sym h)

  pub not-all : (p : X → Bool) (xs : List X) (i : ℕ) (x : X) → i < length xs → x ≡ get_or xs i x
      → p x ≡ false → list_all p xs ≡ false
  not-all p [] i x l e h = absurd (omega arith)
  not-all p (y ∷ xs) zero x l e h = ap (λ b. b && list_all p xs) (ap p (sym e) ∙ h)
  not-all p (y ∷ xs) (suc i) x l e h =
      ap (λ b. p y && b) (not-all p xs i x (omega arith) e h) ∙ and-false (p y)

  pub all-more : (p : X → Bool) (xs : List X) (i : ℕ) (x : X) → i < length xs → x ≡ get_or xs i x
      → list_all p (take i xs) ≡ true → p x ≡ true → list_all p (take (i + 1) xs) ≡ true
  all-more p xs i x l e h k =
      ap (list_all p) (take_more xs i x l ∙ ap (λ y. take i xs ++ y ∷ []) (sym e))
      ∙ (list_all-append p (take i xs) (x ∷ []) ∙ (λ j. h j && (k j && true)))

-- One item more.
module _ {X : Type 0} (p : X → Bool) (xs : List X) (i : ℕ) (x : X) where
  pub filter-gone : i < length xs → x ≡ get_or xs i x → p x ≡ false
      → filter p (take i xs) ≡ filter p (take (i + 1) xs)
  filter-gone l e h =
      sym (filter_more p xs i x l
      ∙ ((λ j. filter p (take i xs) ++ cond ((ap p (sym e) ∙ h) j) (get_or xs i x ∷ []) [])
      ∙ append-nil (filter p (take i xs))))

  pub filter-kept : i < length xs → x ≡ get_or xs i x → p x ≡ true
      → filter p (take i xs) ++ x ∷ [] ≡ filter p (take (i + 1) xs)
  filter-kept l e h =
      sym (filter_more p xs i x l
      ∙ (λ j. filter p (take i xs) ++ cond ((ap p (sym e) ∙ h) j) (sym e j ∷ []) []))

module _ {X Y : Type 0} (f : X → Y) where
  pub map-push : (xs : List X) (x : X) → map f (xs ++ x ∷ []) ≡ map f xs ++ f x ∷ []
  map-push [] x = refl
  map-push (y ∷ xs) x = ap (λ zs. f y ∷ zs) (map-push xs x)

  pub mapped : (xs : List X) (ys new : List Y) (x : X) (y : Y) → ys ≡ map f xs → y ≡ f x
      → new ≡ ys ++ y ∷ [] → new ≡ map f (xs ++ x ∷ [])
  mapped xs ys new x y h e more = more ∙ ((λ i. h i ++ e i ∷ []) ∙ sym (map-push xs x))

  pub mapped-more : (xs : List X) (i : ℕ) (x : X) (y : Y) (old new : List Y) → i < length xs
      → x ≡ get_or xs i x → old ≡ map f (take i xs) → y ≡ f x → new ≡ old ++ y ∷ []
      → new ≡ map f (take (i + 1) xs)
  mapped-more xs i x y old new l e before same more =
      more ∙ ((λ j. before j ++ (same ∙ ap f e) j ∷ []) ∙ sym (map_more f xs i x l))

  -- Of the items that pass, what each gives.
  pub kept-more : (p : X → Bool) (xs : List X) (i : ℕ) (x : X) (y : Y) (old new : List Y)
      → i < length xs → x ≡ get_or xs i x → old ≡ map f (filter p (take i xs)) → p x ≡ true → y ≡ f x
      → new ≡ old ++ y ∷ [] → new ≡ map f (filter p (take (i + 1) xs))
  kept-more p xs i x y old new l e before h same more =
      more
      ∙ ((λ j. before j ++ same j ∷ [])
      ∙ (sym (map-push (filter p (take i xs)) x) ∙ ap (map f) (filter-kept p xs i x l e h)))
