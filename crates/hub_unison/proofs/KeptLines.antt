-- What stays of the lines of a profile, one by one.
use Rattle.std.proofs.Common.{◌≡◌, ◌<◌, ◌+◌, ℕ, suc, zero, arith, Bool, true, false, not, ◌&&◌, ◌||◌, List, [], ◌∷◌, ◌++◌, cond, length, map, take, get_or, Option, Some, None, refl, sym, ap, ◌∙◌, append-nil, append_assoc}
use Rattle.std.specs.Prelude.{if◌then◌else◌}
use Rattle.std.specs.List.{filter, list_all}
use Rattle.std.proofs.Math.Bool.{and-false}
use Rattle.std.proofs.lemmas.Bool.{and_from}
use Rattle.std.proofs.lemmas.List.{length-take-le, map_more, take_more}
use Rattle.std.proofs.lemmas.List.Folds.{list_all-append}
use Rattle.std.proofs.lemmas.List.Elements.{filter_more}
use Rattle.hub_glob.specs.declared.path_spec.Kind.{Kind}
use Rattle.hub_glob.specs.declared.piece.Piece.{Piece}
use Rattle.hub_glob.specs.declared.piece.Part.TheVariants.{Brace}
use Rattle.hub_glob.specs.Glob.{choices}
use Rattle.hub_glob.specs.Specification.{Specification}
use Rattle.hub_profile.specs.declared.partial.Partial.{Partial}
use Rattle.hub_unison.specs.declared.kept.Kept.TheVariants.{Nothing, Cut, Alone, Sparing}
use Rattle.hub_unison.specs.declared.kept.Kept.{Kept}
use Rattle.hub_unison.specs.Kept.{cut_from, is_cut}
use Rattle.hub_unison.specs.Matching.{all_known, all_simple, star_for, starred, widened}
use Rattle.hub_unison.specs.ReadingOf.{bar_stays, has_spares, is_read_back, line_kept, line_stays, read_back, spare_of, spare_stays}
use Rattle.hub_unison.specs.laws.Spare.{all-known}
use Rattle.hub_unison.specs.Spares.{is_plain, pattern_spares}

module _ {X : Type 0} where
  no : {x : X} → None ≡ Some x → ⊥
  no i = cc

  -- What a test gives or leaves out.
  pub some-if : (b : Bool) (x y : X) (o : Option X) → o ≡ Some y
      → o ≡ (if b then Some x else None) → (b ≡ true) × (y ≡ x)
  some-if true x y o is e = let some : Some y ≡ Some x = sym is ∙ e in (refl, cc)
  some-if false x y o is e = absurd (no (sym e ∙ is))

  pub none-if : (b : Bool) (x : X) (o : Option X) → o ≡ None → o ≡ (if b then Some x else None)
      → b ≡ false
  none-if true x o is e = absurd (no (sym is ∙ e))
  none-if false x o is e = refl

  pub gives : (b : Bool) (x y : X) → b ≡ true → y ≡ x → Some y ≡ (if b then Some x else None)
  gives b x y h e = ap Some e ∙ ap (λ c. if c then Some x else None) (sym h)

  pub leaves : (b : Bool) (x : X) → b ≡ false → None ≡ (if b then Some x else None)
  leaves b x h = ap (λ c. if c then Some x else None) (sym h)

  pub not-all : (p : X → Bool) (xs : List X) (i : ℕ) (x : X) → i < length xs → x ≡ get_or xs i x
      → p x ≡ false → list_all p xs ≡ false
  not-all p [] i x l e h = absurd (omega arith)
  not-all p (y ∷ xs) zero x l e h = ap (λ b. b && list_all p xs) (ap p (sym e) ∙ h)
  not-all p (y ∷ xs) (suc i) x l e h =
      ap (λ b. p y && b) (not-all p xs i x (omega arith) e h) ∙ and-false (p y)

  pub all-more : (p : X → Bool) (xs : List X) (i : ℕ) (x : X) → i < length xs → x ≡ get_or xs i x
      → list_all p (take i xs) ≡ true → p x ≡ true → list_all p (take (i + 1) xs) ≡ true
  all-more p xs i x l e h k =
      ap (list_all p) (take_more xs i x l ∙ ap (λ y. take i xs ++ y ∷ []) (sym e))
      ∙ (list_all-append p (take i xs) (x ∷ []) ∙ (λ j. h j && (k j && true)))

  pub taken-more : (xs : List X) (i : ℕ) (x copy : X) (old new : List X) → i < length xs
      → x ≡ get_or xs i x → old ≡ take i xs → copy ≡ x → new ≡ old ++ copy ∷ []
      → new ≡ take (i + 1) xs
  taken-more xs i x copy old new l e before same more =
      more ∙ ((λ j. before j ++ same j ∷ [])
      ∙ sym (take_more xs i x l ∙ ap (λ y. take i xs ++ y ∷ []) (sym e)))

-- What is read back.
pub read-is : (s : Specification) (o : Option Specification) (copy : Specification) → o ≡ Some copy
    → o ≡ read_back s → (is_read_back s ≡ true) × (copy ≡ s)
read-is s o copy is e = some-if (is_read_back s) s copy o is e

pub read-not : (s : Specification) (o : Option Specification) → o ≡ None → o ≡ read_back s
    → is_read_back s ≡ false
read-not s o is e = none-if (is_read_back s) s o is e

-- What is kept of one line.
module _ (s : Specification) where
  abbrev kept-at : Bool → Bool → Bool → Kept
  kept-at b c d =
      if b then (if c then Sparing s (spare_of s) else Alone s) else (if d then Cut else Nothing)

  gone : line_stays s ≡ false → all_simple s.pattern ≡ true → Cut ≡ line_kept s
  gone h simple = (λ i. kept-at (sym h i) (has_spares s) (sym simple i))

  pub gone-unread : all_simple s.pattern ≡ true → is_read_back s ≡ false → Cut ≡ line_kept s
  gone-unread simple h =
      gone (ap (λ b. (b && all_simple s.pattern) && (not (has_spares s) || is_read_back (spare_of s))) h)
      simple

  pub gone-unknown : all_simple s.pattern ≡ false → Nothing ≡ line_kept s
  gone-unknown h =
      (λ i. kept-at (sym stays i) (has_spares s) (sym h i))
    where
      stays : line_stays s ≡ false
      stays =
          ap (λ b. (is_read_back s && b) && (not (has_spares s) || is_read_back (spare_of s))) h
          ∙ ap (λ b. b && (not (has_spares s) || is_read_back (spare_of s))) (and-false (is_read_back s))

  pub gone-spare : all_simple s.pattern ≡ true → has_spares s ≡ true
      → is_read_back (spare_of s) ≡ false → Cut ≡ line_kept s
  gone-spare simple some unread =
      gone
      ((λ i. (is_read_back s && all_simple s.pattern) && (not (some i) || unread i))
      ∙ and-false (is_read_back s && all_simple s.pattern)) simple

  pub stays-alone : (copy : Specification) → copy ≡ s → is_read_back s ≡ true
      → all_simple s.pattern ≡ true → has_spares s ≡ false → Alone copy ≡ line_kept s
  stays-alone copy e read simple none =
      let stays : line_stays s ≡ true =
      (λ i. (read i && simple i) && (not (none i) || is_read_back (spare_of s))) in
      ap Alone e ∙ (λ i. kept-at (sym stays i) (sym none i) (all_simple s.pattern))

  pub stays-sparing : (copy spare : Specification) → copy ≡ s → spare ≡ spare_of s
      → is_read_back s ≡ true → all_simple s.pattern ≡ true → has_spares s ≡ true
      → is_read_back (spare_of s) ≡ true → Sparing copy spare ≡ line_kept s
  stays-sparing copy spare e f read simple some written =
      let stays : line_stays s ≡ true =
      (λ i. (read i && simple i) && (not (some i) || written i)) in
      (λ i. Sparing (e i) (f i)) ∙ (λ i. kept-at (sym stays i) (sym some i) (all_simple s.pattern))

pub spare-at : (s : Specification) (k : Kind) (ds : List (List Piece)) (o : Option Specification)
    → k ≡ s.kind → ds ≡ pattern_spares s.pattern
    → o ≡ read_back (record { kind = k; pattern = Brace ds ∷ [] }) → o ≡ read_back (spare_of s)
spare-at s k ds o kind are e =
    e ∙ (λ i. read_back (record { kind = kind i; pattern = Brace (are i) ∷ [] }))

-- One item more that is left out.
module _ {X : Type 0} (p : X → Bool) (xs : List X) (i : ℕ) (x : X) where
  pub filter-gone : i < length xs → x ≡ get_or xs i x → p x ≡ false
      → filter p (take i xs) ≡ filter p (take (i + 1) xs)
  filter-gone l e h =
      sym (filter_more p xs i x l
      ∙ ((λ j. filter p (take i xs) ++ cond ((ap p (sym e) ∙ h) j) (get_or xs i x ∷ []) [])
      ∙ append-nil (filter p (take i xs))))

-- Whether a bar stays.
pub bar-unsure : (b : Partial) → is_plain b.spec.pattern ≡ false → bar_stays b ≡ false
bar-unsure b h = ap (λ c. is_read_back b.spec && c) h ∙ and-false (is_read_back b.spec)

pub bar-unread : (b : Partial) → is_read_back b.spec ≡ false → bar_stays b ≡ false
bar-unread b h = ap (λ c. c && is_plain b.spec.pattern) h

pub bar-sure : (b : Partial) → is_read_back b.spec ≡ true → is_plain b.spec.pattern ≡ true
    → bar_stays b ≡ true
bar-sure b read plain = and_from (is_read_back b.spec) (is_plain b.spec.pattern) read plain

-- What stands in place of an `ignorenot` line.
pub spare-unknown : (s : Specification) → all_known s.pattern ≡ false → spare_stays s ≡ false
spare-unknown s h = ap (λ b. b && is_read_back (widened s)) h

pub spare-known : (s : Specification) (o : Option Specification) → all_known s.pattern ≡ true
    → o ≡ read_back (widened s) → o ≡ (if spare_stays s then Some (widened s) else None)
spare-known s o h e =
    e ∙ ap (λ b. if b then Some (widened s) else None) (sym (ap (λ b. b && is_read_back (widened s)) h))

pub spare-simple : (s : Specification) (o : Option Specification) → all_simple s.pattern ≡ true
    → o ≡ read_back s → o ≡ (if spare_stays s then Some (widened s) else None)
spare-simple s o h e =
    spare-known s o (all-known s.pattern h)
    (e ∙ ap read_back (sym (ap (λ b. if b then s else starred s) h)))

pub spare-starred : (s : Specification) (k : Kind) (ds : List (List Piece)) (o : Option Specification)
    → all_simple s.pattern ≡ false → all_known s.pattern ≡ true → k ≡ s.kind
    → ds ≡ choices s.pattern ++ map (map star_for) (choices s.pattern)
    → o ≡ read_back (record { kind = k; pattern = Brace ds ∷ [] })
    → o ≡ (if spare_stays s then Some (widened s) else None)
spare-starred s k ds o odd known kind are e =
    spare-known s o known
    (e ∙ ((λ i. read_back (record { kind = kind i; pattern = Brace (are i) ∷ [] }))
    ∙ ap read_back (sym (ap (λ b. if b then s else starred s) odd))))

-- One line more.
pub mapped-more : {X Y : Type 0} (f : X → Y) (xs : List X) (i : ℕ) (x : X) (y : Y) (old new : List Y)
    → i < length xs → x ≡ get_or xs i x → old ≡ map f (take i xs) → y ≡ f x → new ≡ old ++ y ∷ []
    → new ≡ map f (take (i + 1) xs)
mapped-more f xs i x y old new l e before same more =
    more ∙ ((λ j. before j ++ (same ∙ ap f e) j ∷ []) ∙ sym (map_more f xs i x l))

-- The lines of which nothing is kept since a pattern would be too long.
cut-push : (at : ℕ) (ks : List Kept) (k : Kept)
    → cut_from at (ks ++ k ∷ []) ≡ cut_from at ks
    ++ (if is_cut k then (at + length ks) ∷ [] else [])
cut-push at [] k =
    append-nil (if is_cut k then at ∷ [] else [])
    ∙ (λ i. if is_cut k then sum i ∷ [] else [])
  where
    sum : at ≡ at + 0
    sum = omega arith
cut-push at (j ∷ ks) k =
    ap (λ ns. (if is_cut j then at ∷ [] else []) ++ ns) (cut-push (at + 1) ks k)
    ∙ (sym (append_assoc (if is_cut j then at ∷ [] else []) (cut_from (at + 1) ks)
    (if is_cut k then (at + 1 + length ks) ∷ [] else []))
    ∙ (λ i. cut_from at (j ∷ ks) ++ (if is_cut k then sum i ∷ [] else [])))
  where
    sum : at + 1 + length ks ≡ at + length (j ∷ ks)
    sum = omega arith

module _ (all : List Kept) (i : ℕ) (k : Kept) (l : i < length all) (e : k ≡ get_or all i k) where
  at-front : cut_from 0 (take (i + 1) all) ≡ cut_from 0 (take i all)
      ++ (if is_cut k then i ∷ [] else [])
  at-front =
      ap (cut_from 0) (take_more all i k l ∙ ap (λ x. take i all ++ x ∷ []) (sym e))
      ∙ (cut-push 0 (take i all) k
      ∙ (λ j. cut_from 0 (take i all)
      ++ (if is_cut k then many j ∷ [] else [])))
    where
      many : 0 + length (take i all) ≡ i
      many = let taken = length-take-le i all (omega (arith, l)) in omega (arith, taken)

  pub cut-more : (old new : List ℕ) → old ≡ cut_from 0 (take i all) → is_cut k ≡ true
      → new ≡ old ++ i ∷ [] → new ≡ cut_from 0 (take (i + 1) all)
  cut-more old new before h more =
      more ∙ ((λ j. before j ++ i ∷ [])
      ∙ (ap (λ b. cut_from 0 (take i all) ++ (if b then i ∷ [] else [])) (sym h) ∙ sym at-front))

  pub cut-same : (old : List ℕ) → old ≡ cut_from 0 (take i all) → is_cut k ≡ false
      → old ≡ cut_from 0 (take (i + 1) all)
  cut-same old before h =
      before ∙ (sym (append-nil (cut_from 0 (take i all)))
      ∙ (ap (λ b. cut_from 0 (take i all) ++ (if b then i ∷ [] else [])) (sym h) ∙ sym at-front))
