-- Paths up to folding, and the tops of kept values.
use Rattle.std.proofs.Common.{◌≡◌, ℕ, zero, suc, ◌≤◌, arith, Bool, true, false, ◌&&◌, ◌||◌, List, [], ◌∷◌, map, length, refl, sym, ap, ◌∙◌, subst, cond, Some}
use Rattle.std.specs.Prelude.{nat_le, if◌then◌else◌, slice_get}
use Rattle.std.specs.List.{list_any, list_all, filter}
use Rattle.std.proofs.lemmas.Bool.{and_parts, and_from, or_right}
use Rattle.std.proofs.lemmas.Bool.Decides.{nat_tests}
use Rattle.std.proofs.lemmas.Option.{same_Some, none-some}
use Rattle.hub_path.specs.Path.{Name, Path, name_eq, is_over, parent}
use Rattle.hub_path.specs.laws.General.{name_eq-decides, is_over-reflexive, is_over-transitive, is_over-parent, is_over-length}
use Rattle.hub_profile.specs.Facts.{are_kept}
use Rattle.hub_unison.specs.UnisonReach.{is_starred, lies_in}
use Rattle.hub_unison.specs.ReadingOf.{cut_value, topmost}
use Rattle.hub_folded.specs.Fold.{Folding, fold_name, fold_path, knows, knows_path}
use Rattle.hub_folded.specs.Lines.{known_part, top_of, are_over, highest, folded_tops}
use Rattle.hub_folded.specs.InUnison.{Norm, IsNormOf, norm_path, over_up_to}
use Rattle.hub_folded.specs.Seen.{over_as_one, FoldTogether}

pub no : {A : Type 0} → false ≡ true → A
no i = cc

pub or-both : (a b c d : Bool) → (a ≡ true → c ≡ true) → (b ≡ true → d ≡ true) → (a || b) ≡ true
    → (c || d) ≡ true
or-both true b c d u v h = ap (λ x. x || d) (u refl)
or-both false b c d u v h = or_right c d (v h)

-- Lists.
pub map-where : {X Y : Type 0} (h : X → Bool) (f g : X → Y)
    → ((x : X) → h x ≡ true → f x ≡ g x) → (xs : List X) → list_all h xs ≡ true
    → map f xs ≡ map g xs
map-where h f g same [] all = refl
map-where h f g same (x ∷ xs) all =
    let parts = and_parts (h x) (list_all h xs) all in
    (λ i. same x parts.0 i ∷ map-where h f g same xs parts.1 i)

-- What passes of the items kept, passes of all.
pub any-kept : {X Y : Type 0} (h : X → Bool) (f : X → Y) (t : Y → Bool) (xs : List X)
    → list_any t (map f (filter h xs)) ≡ true → list_any t (map f xs) ≡ true
any-kept h f t [] some = some
any-kept h f t (x ∷ xs) some = go (h x) (any-kept h f t xs) some
  where
    go : (b : Bool) → (list_any t (map f (filter h xs)) ≡ true → list_any t (map f xs) ≡ true)
        → list_any t (map f (cond b (x ∷ filter h xs) (filter h xs))) ≡ true
        → (t (f x) || list_any t (map f xs)) ≡ true
    go false rest some = or_right (t (f x)) (list_any t (map f xs)) (rest some)
    go true rest some =
        or-both (t (f x)) (list_any t (map f (filter h xs))) (t (f x)) (list_any t (map f xs))
        (λ p. p) rest some

-- What some item gives that passes, where all pass another test.
pub any-gives : {X : Type 0} (h f : X → Bool) (R : Bool) (xs : List X) → list_all h xs ≡ true
    → ((x : X) → h x ≡ true → f x ≡ true → R ≡ true) → list_any f xs ≡ true → R ≡ true
any-gives h f R [] all w some = no some
any-gives h f R (x ∷ xs) all w some =
    let parts = and_parts (h x) (list_all h xs) all in
    go (f x) refl parts.0 (any-gives h f R xs parts.1 w) some
  where
    go : (b : Bool) → f x ≡ b → h x ≡ true → (list_any f xs ≡ true → R ≡ true)
        → (b || list_any f xs) ≡ true → R ≡ true
    go true e here there so = w x here e
    go false e here there so = there so

pub all-true : {X : Type 0} (f : X → Bool) (xs : List X) → ((x : X) → f x ≡ true)
    → list_all f xs ≡ true
all-true f [] w = refl
all-true f (x ∷ xs) w = and_from (f x) (list_all f xs) (w x) (all-true f xs w)

pub all-map : {X Y : Type 0} (f : Y → Bool) (g : X → Y) (xs : List X)
    → list_all f (map g xs) ≡ true → list_all (λ x. f (g x)) xs ≡ true
all-map f g [] all = refl
all-map f g (x ∷ xs) all =
    let parts = and_parts (f (g x)) (list_all f (map g xs)) all in
    and_from (f (g x)) (list_all (λ y. f (g y)) xs) parts.0 (all-map f g xs parts.1)

pub all-at : {X : Type 0} (f : X → Bool) (xs : List X) (k : ℕ) (x : X) → list_all f xs ≡ true
    → slice_get xs k ≡ Some x → f x ≡ true
all-at f [] k x all e = absurd (none-some x e)
all-at f (y ∷ xs) zero x all e = ap f (same_Some x y (sym e)) ∙ (and_parts (f y) (list_all f xs) all).0
all-at f (y ∷ xs) (suc k) x all e = all-at f xs k x (and_parts (f y) (list_all f xs) all).1 e

-- Parents and tops.
pub map-parent : (f : Name → Name) (s : Path) → map f (parent s) ≡ parent (map f s)
map-parent f [] = refl
map-parent f (n ∷ []) = refl
map-parent f (n ∷ m ∷ s) = ap (λ t. f n ∷ t) (map-parent f (m ∷ s))

parent-over : (a b : Path) → is_over a b ≡ true → is_over (parent a) (parent b) ≡ true
parent-over [] b h = refl
parent-over (n ∷ []) b h = refl
parent-over (n ∷ m ∷ a) [] h = no h
parent-over (n ∷ m ∷ a) (k ∷ []) h = no ((and_parts (name_eq n k) (is_over (m ∷ a) []) h).1)
parent-over (n ∷ m ∷ a) (k ∷ l ∷ b) h =
    let parts = and_parts (name_eq n k) (is_over (m ∷ a) (l ∷ b)) h in
    and_from (name_eq n k) (is_over (parent (m ∷ a)) (parent (l ∷ b))) parts.0
    (parent-over (m ∷ a) (l ∷ b) parts.1)

-- What is over a starred path, and isn't starred, is over its parent.
over-cut : (k b : Path) → is_over k b ≡ true → is_starred k ≡ false → is_starred b ≡ true
    → is_over k (parent b) ≡ true
over-cut [] b h plain star = refl
over-cut (n ∷ k) [] h plain star = no h
over-cut (n ∷ []) (m ∷ []) h plain star =
    let e : n ≡ m = (name_eq-decides n m).0 (and_parts (name_eq n m) true h).0 in
    no (sym plain ∙ (ap (λ x. is_starred (x ∷ [])) e ∙ star))
over-cut (n ∷ []) (m ∷ o ∷ b) h plain star =
    and_from (name_eq n m) true (and_parts (name_eq n m) true h).0 refl
over-cut (n ∷ l ∷ k) (m ∷ []) h plain star = no ((and_parts (name_eq n m) (is_over (l ∷ k) []) h).1)
over-cut (n ∷ l ∷ k) (m ∷ o ∷ b) h plain star =
    let parts = and_parts (name_eq n m) (is_over (l ∷ k) (o ∷ b)) h in
    and_from (name_eq n m) (is_over (l ∷ k) (parent (o ∷ b))) parts.0
    (over-cut (l ∷ k) (o ∷ b) parts.1 plain star)

pub cut-over : (s : Path) → is_over (cut_value s) s ≡ true
cut-over s = go (is_starred s)
  where
    go : (b : Bool) → is_over (if b then parent s else s) s ≡ true
    go true = is_over-parent s
    go false = is_over-reflexive s

cut-over-parent : (k b : Path) → is_over k b ≡ true → is_starred b ≡ true
    → is_over (cut_value k) (parent b) ≡ true
cut-over-parent k b h star = go (is_starred k) refl
  where
    go : (c : Bool) → is_starred k ≡ c → is_over (if c then parent k else k) (parent b) ≡ true
    go true e = parent-over k b h
    go false e = over-cut k b h e star

-- What lies at or below a kept value lies in it, whatever its last name.
pub over-lies : (s q : Path) → is_over s q ≡ true → lies_in s q ≡ true
over-lies s q h = go (is_starred s)
  where
    shorter : (a b : ℕ) → a ≤ b → nat_le a b ≡ true
    shorter a b l = grind (arith, nat_tests)

    go : (b : Bool)
        → (if b then is_over (parent s) q && nat_le (length s) (length q) else is_over s q) ≡ true
    go true =
        and_from (is_over (parent s) q) (nat_le (length s) (length q))
        (is_over-transitive (parent s) s q (is_over-parent s) h)
        (shorter (length s) (length q) (is_over-length s q h))
    go false = h

-- What lies in a kept value lies at or below this without a last `*`.
pub lies-cut : (s q : Path) → lies_in s q ≡ true → is_over (cut_value s) q ≡ true
lies-cut s q h = go (is_starred s) h
  where
    go : (b : Bool)
        → (if b then is_over (parent s) q && nat_le (length s) (length q) else is_over s q) ≡ true
        → is_over (if b then parent s else s) q ≡ true
    go true h = (and_parts (is_over (parent s) q) (nat_le (length s) (length q)) h).0
    go false h = h

-- A path over another one is so up to folding, and also up to names that are one.
pub norm-over : (N : Norm) (p q : Path) → is_over p q ≡ true → over_up_to N p q ≡ true
norm-over N [] q h = refl
norm-over N (n ∷ p) [] h = no h
norm-over N (n ∷ p) (k ∷ q) h =
    let parts = and_parts (name_eq n k) (is_over p q) h in
    and_from (name_eq (N.name n) (N.name k)) (over_up_to N p q)
    ((name_eq-decides (N.name n) (N.name k)).1 (ap N.name ((name_eq-decides n k).0 parts.0)))
    (norm-over N p q parts.1)

pub one-over : (one : Name → Name → Bool) (N : Norm) → FoldTogether one N → (p q : Path)
    → over_as_one one p q ≡ true → over_up_to N p q ≡ true
one-over one N same [] q h = refl
one-over one N same (n ∷ p) [] h = no h
one-over one N same (n ∷ p) (k ∷ q) h =
    let parts = and_parts (one n k) (over_as_one one p q) h in
    and_from (name_eq (N.name n) (N.name k)) (over_up_to N p q)
    ((name_eq-decides (N.name n) (N.name k)).1 (same n k parts.0)) (one-over one N same p q parts.1)

module _ (F : Folding) (N : Norm) (is : IsNormOf F N) where
  pub known-path : (s : Path) → knows_path F s ≡ true → norm_path N s ≡ fold_path F s
  known-path s all = map-where (knows F) N.name (fold_name F) is.names s all

  part-over : (s : Path) → is_over (known_part F s) (norm_path N s) ≡ true
  part-over [] = refl
  part-over (n ∷ s) = go (knows F n) refl (part-over s)
    where
      go : (b : Bool) → knows F n ≡ b → is_over (known_part F s) (norm_path N s) ≡ true
          → is_over (if b then fold_name F n ∷ known_part F s else []) (N.name n ∷ norm_path N s) ≡ true
      go true e rest =
          and_from (name_eq (fold_name F n) (N.name n)) (is_over (known_part F s) (norm_path N s))
          ((name_eq-decides (fold_name F n) (N.name n)).1 (sym (is.names n e))) rest
      go false e rest = refl

  cut-part : (s : Path) → is_over (top_of F s) (norm_path N (cut_value s)) ≡ true
  cut-part s =
      is_over-transitive (top_of F s) (known_part F (cut_value s)) (norm_path N (cut_value s))
      (cut-over (known_part F (cut_value s))) (part-over (cut_value s))

  -- The top of a kept value is over all that this stands for: by the lines as they are, ..
  pub top-plain : (s p : Path) → lies_in s p ≡ true → is_over (top_of F s) (norm_path N p) ≡ true
  top-plain s p h =
      is_over-transitive (top_of F s) (norm_path N (cut_value s)) (norm_path N p) (cut-part s)
      (norm-over N (cut_value s) p (lies-cut s p h))

  -- .. and by its folded line.
  top-cut : (s : Path) → is_over (top_of F s) (cut_value (norm_path N s)) ≡ true
  top-cut s = go (is_starred (norm_path N s)) refl
    where
      over-all : is_over (top_of F s) (norm_path N s) ≡ true
      over-all =
          is_over-transitive (top_of F s) (norm_path N (cut_value s)) (norm_path N s) (cut-part s)
          (norm-over N (cut_value s) s (cut-over s))

      by-star : (b : Bool) → is_starred (norm_path N s) ≡ true
          → is_over (cut_value (known_part F (if b then parent s else s))) (parent (norm_path N s)) ≡ true
      by-star true star =
          is_over-transitive (cut_value (known_part F (parent s))) (known_part F (parent s))
          (parent (norm_path N s)) (cut-over (known_part F (parent s)))
          (subst (λ t. is_over (known_part F (parent s)) t ≡ true) (map-parent N.name s)
          (part-over (parent s)))
      by-star false star = cut-over-parent (known_part F s) (norm_path N s) (part-over s) star

      go : (b : Bool) → is_starred (norm_path N s) ≡ b
          → is_over (top_of F s) (if b then parent (norm_path N s) else norm_path N s) ≡ true
      go true e = by-star (is_starred s) e
      go false e = over-all

  pub top-normed : (s q : Path) → lies_in (norm_path N s) q ≡ true → is_over (top_of F s) q ≡ true
  top-normed s q h =
      is_over-transitive (top_of F s) (cut_value (norm_path N s)) q (top-cut s)
      (lies-cut (norm_path N s) q h)

-- Each top is below one of the highest.
pub highest-over : (ts : List Path) → list_all (λ t. list_any (λ top. is_over top t) (highest ts)) ts ≡ true
highest-over ts = go (are_kept (topmost ts)) (are_over (topmost ts) ts) refl
  where
    go : (a b : Bool) → are_over (topmost ts) ts ≡ b
        → list_all (λ t. list_any (λ top. is_over top t) (if a && b then topmost ts else [] ∷ [])) ts ≡ true
    go true true e = e
    go true false e = all-true (λ t. true) ts (λ t. refl)
    go false b e = all-true (λ t. true) ts (λ t. refl)

pub tops-over : (F : Folding) (paths : List Path)
    → list_all (λ s. list_any (λ top. is_over top (top_of F s)) (folded_tops F paths)) paths ≡ true
tops-over F paths =
    all-map (λ t. list_any (λ top. is_over top t) (folded_tops F paths)) (top_of F) paths
    (highest-over (map (top_of F) paths))
