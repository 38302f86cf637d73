-- Paths below kept values that lie apart do, too.
use Rattle.std.proofs.Common.{◌≡◌, ◌⊎◌, ⊎_elim, Bool, true, false, ◌||◌, List, [], ◌∷◌, refl, sym, ◌∙◌}
use Rattle.std.specs.Prelude.{IsTrue}
use Rattle.std.specs.List.{list_any}
use Rattle.std.proofs.lemmas.Bool.{or_cases, false≢true}
use Rattle.hub_path.specs.Path.{Path, is_over}
use Rattle.hub_path.specs.laws.General.{is_over-comparable, is_over-transitive}
use Rattle.hub_profile.specs.Parts.{Parts}
use Rattle.hub_reach.specs.laws.General.{reach-below}
use Rattle.hub_reach.specs.Reach.{reach}
use Rattle.hub_reach.specs.Apart.{is_near, is_near_one, are_near}

or-left : (x y : Bool) → x ≡ true → (x || y) ≡ true
or-left true y h = refl
or-left false y h = cc

or-second : (x y : Bool) → y ≡ true → (x || y) ≡ true
or-second true y h = refl
or-second false y h = h

near-by : (s t : Path) → IsTrue (is_over s t) ⊎ IsTrue (is_over t s) → is_near s t ≡ true
near-by s t h =
    ⊎_elim (or-left (is_over s t) (is_over t s)) (or-second (is_over s t) (is_over t s)) h

one-near : (s q : Path) (ts : List Path) → IsTrue (is_over s q)
    → list_any (λ t. is_over t q) ts ≡ true → is_near_one s ts ≡ true
one-near s q [] h k = cc
one-near s q (t ∷ ts) h k =
    ⊎_elim
    (λ over. or-left (is_near s t) (is_near_one s ts) (near-by s t (is_over-comparable s t q h over)))
    (λ rest. or-second (is_near s t) (is_near_one s ts) (one-near s q ts h rest))
    (or_cases (is_over t q) (list_any (λ t. is_over t q) ts) k)

-- Values over two paths, one of which is over the other, are near.
all-near : (ss ts : List Path) (p q : Path) → IsTrue (is_over p q)
    → list_any (λ s. is_over s p) ss ≡ true → list_any (λ t. is_over t q) ts ≡ true
    → are_near ss ts ≡ true
all-near [] ts p q o h k = cc
all-near (s ∷ ss) ts p q o h k =
    ⊎_elim
    (λ over. or-left (is_near_one s ts) (are_near ss ts) (one-near s q ts (is_over-transitive s p q over o) k))
    (λ rest. or-second (is_near_one s ts) (are_near ss ts) (all-near ss ts p q o rest k))
    (or_cases (is_over s p) (list_any (λ s. is_over s p) ss) h)

-- Where no kept value of one profile is near one of the other, nothing that the first reaches is
-- over something that the other one reaches.
pub apart-reach : (P Q : Parts) (p q : Path) → are_near P.paths Q.paths ≡ false
    → IsTrue (is_over p q) → IsTrue (reach P p) → IsTrue (reach Q q) → ⊥
apart-reach P Q p q apart over one two =
    false≢true (sym apart ∙ all-near P.paths Q.paths p q over (reach-below P p one) (reach-below Q q two))
