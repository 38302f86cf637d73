-- Two profiles share an archive exactly if their keys are equal.
use Rattle.std.proofs.Common.{◌≡◌, ◌≢◌, ◌⊎◌, inl, inr, ⊎_elim, ◌+◌, ◌||◌, ◌&&◌, ◌==◌, ℕ, suc, Bool, true, false, not, List, [], ◌∷◌, ◌++◌, length, map, refl, sym, ap, ◌∙◌, arith, codes}
use Rattle.std.specs.Prelude.{IsTrue, if◌then◌else◌}
use Rattle.std.specs.Cmp.{both_ways}
use Rattle.std.specs.List.{AllByRecursion, list_all, list_any}
use Rattle.std.specs.Ordering.{is_eq, is_le, ordering_reverse, ordering_then}
use Rattle.std.specs.Str.{encode_utf8_all}
use Rattle.std.specs.declared.cmp.Ordering.{Ordering}
use Rattle.std.specs.declared.cmp.Ordering.TheVariants.{Less, Equal, Greater}
use Rattle.std.proofs.lemmas.Bool.{and_parts}
use Rattle.std.proofs.lemmas.Bool.Decides.{nat_tests}
use Rattle.std.proofs.lemmas.Cmp.{nat_list_cmp_total, tied_itself}
use Rattle.std.proofs.lemmas.List.{append_cancel_left}
use Rattle.hub_path.specs.Path.{Path, is_over, is_place, none_over, path_eq, root_bytes, text_of}
use Rattle.hub_path.specs.laws.General.{is_over-reflexive, path_cmp-exact, path_eq-decides}
use Rattle.hub_path.specs.laws.TextOrder as ordered
use Rattle.hub_profile.specs.Facts.{are_roots}
use Rattle.hub_profile.specs.Parts.{IsProfile, Parts}
use Rattle.hub_unison.specs.Keys.{Key, in_order, is_key, key_of, key_of_roots, pairs_of_key, pairs_of_keys, text_cmp}
use Rattle.hub_unison.specs.Shared.{is_shared, pairs_from, pairs_with}
use Rattle.hub_unison.proofs.Keyed.{same-key, text-exact}

-- Roots are equal where their texts are.
root-exact : (p q : Path) → IsTrue (is_place p) → IsTrue (is_place q) → root_bytes p ≡ root_bytes q → p ≡ q
root-exact p q h k e =
    let texts : encode_utf8_all (text_of p) ≡ encode_utf8_all (text_of q) = append_cancel_left (codes "/") _ _ e in
    path_cmp-exact p q
    (sym (ordered.bytes-cmp p q h k)
    ∙ (ap (ordered.text_cmp (encode_utf8_all (text_of p))) (sym texts)
    ∙ tied_itself nat_list_cmp_total (ordered.ranks (encode_utf8_all (text_of p)))))

-- Two texts, the first one first or last.
abbrev in_turn : Bool → List ℕ → List ℕ → Key
in_turn b s t = if b then (s, t) else (t, s)

-- The order in which they are given makes no difference.
turned : (s t : List ℕ) (p : Ordering) → (p ≡ Equal → s ≡ t)
    → in_turn (is_le (ordering_reverse p)) s t ≡ in_turn (is_le p) t s
turned s t Less f = refl
turned s t Equal f = let e : s ≡ t = f refl in let d : t ≡ s = sym e in λ i. (e i, d i)
turned s t Greater f = refl

in_order-turned : (s t : List ℕ) → in_order s t ≡ in_order t s
in_order-turned s t =
    ap (λ o. in_turn (is_le o) s t) (nat_list_cmp_total.antisymm s t)
    ∙ turned s t (text_cmp t s) (λ e. sym (text-exact t s e))

-- Two are the same two, in either order.
abbrev Same : {X : Type 0} → X → X → X → X → Type 0
Same a b c d = ((a ≡ c) × (b ≡ d)) ⊎ ((a ≡ d) × (b ≡ c))

chosen : (s t u v : List ℕ) (b c : Bool) → in_turn b s t ≡ in_turn c u v → Same s t u v
chosen s t u v true true e = inl (ap (λ (k : Key). k.0) e, ap (λ (k : Key). k.1) e)
chosen s t u v true false e = inr (ap (λ (k : Key). k.0) e, ap (λ (k : Key). k.1) e)
chosen s t u v false true e = inr (ap (λ (k : Key). k.1) e, ap (λ (k : Key). k.0) e)
chosen s t u v false false e = inl (ap (λ (k : Key). k.1) e, ap (λ (k : Key). k.0) e)

-- One of two.
either : (x y : Bool) → (x || (y || false)) ≡ true → (x ≡ true) ⊎ (y ≡ true)
either true y h = inl refl
either false true h = inr refl
either false false h = cc

first-of : (x y : Bool) → x ≡ true → (x || (y || false)) ≡ true
first-of true y h = refl
first-of false y h = cc

second-of : (x y : Bool) → y ≡ true → (x || (y || false)) ≡ true
second-of true y h = refl
second-of false true h = refl
second-of false false h = cc

both-of : (x y : Bool) → x ≡ true → y ≡ true → (x && (y && true)) ≡ true
both-of true true h k = refl
both-of true false h k = cc
both-of false y h k = cc

or-left : (x y : Bool) → x ≡ true → (x || y) ≡ true
or-left true y h = refl
or-left false y h = cc

or-cases : (x y : Bool) → (x || y) ≡ true → (x ≡ true) ⊎ (y ≡ true)
or-cases true y h = inl refl
or-cases false y h = inr h

-- Whether r is one of two roots, and whether two roots are.
abbrev has : Path → Path → Path → Bool
has c d r = list_any (λ own. path_eq own r) (c ∷ d ∷ [])

abbrev have : Path → Path → Path → Path → Bool
have a b c d = list_all (has c d) (a ∷ b ∷ [])

among : (c d r : Path) → has c d r ≡ true → (r ≡ c) ⊎ (r ≡ d)
among c d r h =
    ⊎_elim (λ e. inl (sym ((path_eq-decides c r).0 e))) (λ e. inr (sym ((path_eq-decides d r).0 e)))
    (either (path_eq c r) (path_eq d r) h)

one-each : (a b c d : Path) → a ≢ b → (a ≡ c) ⊎ (a ≡ d) → (b ≡ c) ⊎ (b ≡ d) → Same a b c d
one-each a b c d apart (inl e) (inl f) = absurd (apart (e ∙ sym f))
one-each a b c d apart (inl e) (inr f) = inl (e, f)
one-each a b c d apart (inr e) (inl f) = inr (e, f)
one-each a b c d apart (inr e) (inr f) = absurd (apart (e ∙ sym f))

have-same : (a b c d : Path) → a ≢ b → have a b c d ≡ true → Same a b c d
have-same a b c d apart h =
    let both = and_parts (has c d a) (has c d b && true) h in
    one-each a b c d apart (among c d a both.0) (among c d b (and_parts (has c d b) true both.1).0)

same-have : (a b c d : Path) → Same a b c d → have a b c d ≡ true
same-have a b c d (inl w) =
    both-of (has c d a) (has c d b)
    (first-of (path_eq c a) (path_eq d a) ((path_eq-decides c a).1 (sym w.0)))
    (second-of (path_eq c b) (path_eq d b) ((path_eq-decides d b).1 (sym w.1)))
same-have a b c d (inr w) =
    both-of (has c d a) (has c d b)
    (second-of (path_eq c a) (path_eq d a) ((path_eq-decides d a).1 (sym w.0)))
    (first-of (path_eq c b) (path_eq d b) ((path_eq-decides c b).1 (sym w.1)))

turned-same : {X : Type 0} (a b c d : X) → Same c d a b → Same a b c d
turned-same a b c d (inl w) = inl (sym w.0, sym w.1)
turned-same a b c d (inr w) = inr (sym w.1, sym w.0)

-- The keys of the same two roots are equal, and only those.
same-keys : (a b c d : Path) → Same a b c d → in_order (root_bytes a) (root_bytes b) ≡ in_order (root_bytes c) (root_bytes d)
same-keys a b c d (inl w) = λ i. in_order (root_bytes (w.0 i)) (root_bytes (w.1 i))
same-keys a b c d (inr w) =
    (λ i. in_order (root_bytes (w.0 i)) (root_bytes (w.1 i))) ∙ in_order-turned (root_bytes d) (root_bytes c)

key-itself : (k : Key) → is_key k k ≡ true
key-itself k =
    ap (λ o. is_eq (ordering_then o (text_cmp k.1 k.1))) (tied_itself nat_list_cmp_total k.0)
    ∙ ap is_eq (tied_itself nat_list_cmp_total k.1)

is_key-from : (k l : Key) → k ≡ l → is_key l k ≡ true
is_key-from k l e = ap (λ r. is_key l r) e ∙ key-itself l

-- The roots of a profile.
record AreTwo (a b : Path) : Type 0 where
  first : IsTrue (is_place a)
  second : IsTrue (is_place b)
  apart : a ≢ b

two-apart : (a b : Path) → are_roots (a ∷ b ∷ []) ≡ true → AreTwo a b
two-apart a b h =
    let all = and_parts (length (a ∷ b ∷ []) == 2 && list_all is_place (a ∷ b ∷ [])) (none_over (a ∷ b ∷ [])) h in
    let places = (and_parts (length (a ∷ b ∷ []) == 2) (list_all is_place (a ∷ b ∷ [])) all.0).1 in
    let rest = and_parts (is_place a) (is_place b && true) places in
    let none = and_parts (list_all (λ q. not (is_over a q || is_over q a)) (b ∷ [])) (none_over (b ∷ [])) all.1 in
    let away = (and_parts (not (is_over a b || is_over b a)) true none.0).0 in
    record {
      first = rest.0;
      second = (and_parts (is_place b) true rest.1).0;
      apart = λ e. over (is_over a b) (is_over b a) (ap (is_over a) (sym e) ∙ is_over-reflexive a) away;
    }
  where
    over : (x y : Bool) → x ≡ true → not (x || y) ≡ true → ⊥
    over true y h k = let w : false ≡ true = k in absurd cc
    over false y h k = let w : false ≡ true = h in absurd cc

module _ (a b c d : Path) (own : AreTwo a b) (other : AreTwo c d) where
  given : (have a b c d || have c d a b) ≡ true → Same a b c d
  given h =
      ⊎_elim (λ e. have-same a b c d own.apart e) (λ e. turned-same a b c d (have-same c d a b other.apart e))
      (or-cases (have a b c d) (have c d a b) h)

  found : is_key (in_order (root_bytes c) (root_bytes d)) (in_order (root_bytes a) (root_bytes b)) ≡ true
      → (have a b c d || have c d a b) ≡ true
  found h =
      or-left (have a b c d) (have c d a b)
      (same-have a b c d
      (roots (chosen (root_bytes a) (root_bytes b) (root_bytes c) (root_bytes d) _ _ (sym (same-key _ _ h)))))
    where
      roots : Same (root_bytes a) (root_bytes b) (root_bytes c) (root_bytes d) → Same a b c d
      roots (inl w) = inl (root-exact a c own.first other.first w.0, root-exact b d own.second other.second w.1)
      roots (inr w) = inr (root-exact a d own.first other.second w.0, root-exact b c own.second other.first w.1)

  same-test : (have a b c d || have c d a b)
      ≡ is_key (in_order (root_bytes c) (root_bytes d)) (in_order (root_bytes a) (root_bytes b))
  same-test = both_ways _ _ (λ h. is_key-from _ _ (same-keys a b c d (given h))) found

too-many : (n : ℕ) (a b : Bool) → (suc (suc (suc n)) == 2 && a && b) ≡ true → false ≡ true
too-many n a b h =
    let other : (suc (suc (suc n)) == 2) ≡ false = grind (arith, nat_tests) in
    sym (ap (λ c. (c && a) && b) other) ∙ h

same-roots : (rs ss : List Path) → are_roots rs ≡ true → are_roots ss ≡ true
    → (list_all (λ r. list_any (λ own. path_eq own r) ss) rs || list_all (λ r. list_any (λ own. path_eq own r) rs) ss)
    ≡ is_key (key_of_roots ss) (key_of_roots rs)
same-roots [] ss h k = let w : false ≡ true = h in cc
same-roots (a ∷ []) ss h k = let w : false ≡ true = h in cc
same-roots (a ∷ b ∷ []) [] h k = let w : false ≡ true = k in cc
same-roots (a ∷ b ∷ []) (c ∷ []) h k = let w : false ≡ true = k in cc
same-roots (a ∷ b ∷ []) (c ∷ d ∷ []) h k = same-test a b c d (two-apart a b h) (two-apart c d k)
same-roots (a ∷ b ∷ []) (c ∷ d ∷ e ∷ ss) h k =
    let w : false ≡ true = too-many (length ss) (list_all is_place (c ∷ d ∷ e ∷ ss)) (none_over (c ∷ d ∷ e ∷ ss)) k in cc
same-roots (a ∷ b ∷ c ∷ rs) ss h k =
    let w : false ≡ true = too-many (length rs) (list_all is_place (a ∷ b ∷ c ∷ rs)) (none_over (a ∷ b ∷ c ∷ rs)) h in cc

is_shared-key : (P Q : Parts) → IsProfile P → IsProfile Q → is_shared P Q ≡ is_key (key_of Q) (key_of P)
is_shared-key P Q own other = same-roots P.roots Q.roots own.roots other.roots

-- The pairs of profiles are those of their keys.
same-with : (i : ℕ) (P : Parts) (j : ℕ) (Qs : List Parts) → IsProfile P → AllByRecursion IsProfile Qs
    → pairs_with i P j Qs ≡ pairs_of_key i (key_of P) j (map key_of Qs)
same-with i P j [] own all = refl
same-with i P j (Q ∷ Qs) own all =
    let is = is_shared-key P Q own all.0 in
    let later = same-with i P (j + 1) Qs own all.1 in
    λ t. (if is t then (i, j) ∷ [] else []) ++ later t

pub same-from : (i : ℕ) (Ps : List Parts) → AllByRecursion IsProfile Ps → pairs_of_keys i (map key_of Ps) ≡ pairs_from i Ps
same-from i [] all = refl
same-from i (P ∷ Ps) all =
    let own = sym (same-with i P (i + 1) Ps all.0 all.1) in
    let later = same-from (i + 1) Ps all.1 in
    λ t. own t ++ later t
