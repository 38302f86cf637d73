-- Keys in the order of what is read of them.
use Rattle.std.proofs.Common.{◌≡◌, List, [], ◌∷◌, Ordering, map, refl, ap}
use Rattle.std.specs.BTreeSet.{insert_key}
use Rattle.std.specs.Ordering.{match_ordering}
use Rattle.std.specs.declared.cmp.Ordering.TheVariants.{Less, Equal, Greater}

-- What is read of keys among which one more is put before the first, nowhere or after the first.
map-match_ordering : {A B : Type 0} (v : A → B) (k x : A) (xs : List A) (ys : List A) (zs : List B) (o : Ordering) → map v ys ≡ zs
    → map v (match_ordering o (k ∷ x ∷ xs) (x ∷ xs) (x ∷ ys)) ≡ match_ordering o (v k ∷ v x ∷ map v xs) (v x ∷ map v xs) (v x ∷ zs)
map-match_ordering v k x xs ys zs Less e = refl
map-match_ordering v k x xs ys zs Equal e = refl
map-match_ordering v k x xs ys zs Greater e = ap (λ us. v x ∷ us) e

-- What is read of keys after one more is put in its place.
pub map-insert_key : {A B : Type 0} (v : A → B) (R : B → B → Ordering) (ks : List A) (k : A)
    → map v (insert_key (λ x y. R (v x) (v y)) ks k) ≡ insert_key R (map v ks) (v k)
map-insert_key v R [] k = refl
map-insert_key v R (x ∷ xs) k =
    map-match_ordering v k x xs (insert_key (λ y z. R (v y) (v z)) xs k) (insert_key R (map v xs) (v k)) (R (v k) (v x)) (map-insert_key v R xs k)
