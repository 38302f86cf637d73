-- Where no pair is shared, no two profiles have the same two roots.
use Rattle.std.proofs.Common.{◌≡◌, ℕ, zero, suc, Bool, true, false, List, [], ◌∷◌, ◌++◌, Some, refl, ap, subst}
use Rattle.std.specs.Prelude.{◌+◌, slice_get, if◌then◌else◌}
use Rattle.std.proofs.lemmas.Bool.{or_parts}
use Rattle.std.proofs.lemmas.Option.{none-some, same_Some}
use Rattle.hub_profile.specs.Parts.{Parts}
use Rattle.hub_reach.specs.Safe.{share_archive}
use Rattle.hub_unison.specs.Shared.{ShareNoArchive, is_shared, pairs_from, pairs_with, shared_pairs}

none-left : {X : Type 0} (xs ys : List X) → xs ++ ys ≡ [] → xs ≡ []
none-left [] ys e = refl
none-left (x ∷ xs) ys e = absurd cc

none-right : {X : Type 0} (xs ys : List X) → xs ++ ys ≡ [] → ys ≡ []
none-right [] ys e = e
none-right (x ∷ xs) ys e = absurd cc

not-shared : {X : Type 0} (b : Bool) (x : X) → (if b then x ∷ [] else []) ≡ [] → b ≡ false
not-shared true x e = absurd cc
not-shared false x e = refl

none-with : (i j : ℕ) (P : Parts) (Qs : List Parts) → pairs_with i P j Qs ≡ [] → (k : ℕ) (Q : Parts)
    → slice_get Qs k ≡ Some Q → is_shared P Q ≡ false
none-with i j P [] none k Q at = absurd (none-some Q at)
none-with i j P (R ∷ Qs) none zero Q at =
    subst (λ S. is_shared P S ≡ false) (same_Some R Q at)
    (not-shared (is_shared P R) (i, j)
    (none-left (if is_shared P R then (i, j) ∷ [] else []) (pairs_with i P (j + 1) Qs) none))
none-with i j P (R ∷ Qs) none (suc k) Q at =
    none-with i (j + 1) P Qs
    (none-right (if is_shared P R then (i, j) ∷ [] else []) (pairs_with i P (j + 1) Qs) none) k Q at

none-from : (i : ℕ) (Ps : List Parts) → pairs_from i Ps ≡ [] → ShareNoArchive Ps
none-from i [] none a b P Q at_a at_b apart = absurd (none-some P at_a)
none-from i (R ∷ Ps) none zero zero P Q at_a at_b apart = absurd (apart refl)
none-from i (R ∷ Ps) none zero (suc b) P Q at_a at_b apart =
    subst (λ S. share_archive S Q ≡ false) (same_Some R P at_a)
    (or_parts (share_archive R Q) (share_archive Q R)
    (none-with i (i + 1) R Ps (none-left (pairs_with i R (i + 1) Ps) (pairs_from (i + 1) Ps) none) b Q at_b)).0
none-from i (R ∷ Ps) none (suc a) zero P Q at_a at_b apart =
    subst (λ S. share_archive P S ≡ false) (same_Some R Q at_b)
    (or_parts (share_archive R P) (share_archive P R)
    (none-with i (i + 1) R Ps (none-left (pairs_with i R (i + 1) Ps) (pairs_from (i + 1) Ps) none) a P at_a)).1
none-from i (R ∷ Ps) none (suc a) (suc b) P Q at_a at_b apart =
    none-from (i + 1) Ps (none-right (pairs_with i R (i + 1) Ps) (pairs_from (i + 1) Ps) none) a b P Q
    at_a at_b (λ e. apart (ap suc e))

pub none-shared : (Ps : List Parts) → shared_pairs Ps ≡ [] → ShareNoArchive Ps
none-shared Ps none = none-from 0 Ps none
