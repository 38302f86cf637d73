-- What follows from reach.
use Rattle.std.proofs.Common.{◌≡◌, ◌∙◌, Bool, true, false, not, ◌&&◌, List, [], ◌∷◌, refl, ap}
use Rattle.std.proofs.lemmas.Bool.{and_parts, and_right}
use Rattle.std.specs.Prelude.{IsTrue, Option, Some, None}
use Rattle.std.specs.List.{list_any}
use Rattle.hub_path.specs.Path.{Path, is_over, is_path, prefixes}
use Rattle.hub_glob.specs.Glob.{matches}
use Rattle.hub_glob.specs.Specification.{Specification}
use Rattle.hub_profile.specs.Parts.{Parts, some_passes}
use Rattle.std.proofs.Math.Bool.{and-true}
use Rattle.hub_reach.specs.Reach.{reach, is_open, is_ignored}
use Rattle.hub_text.specs.laws.Test.{any-alike, any-weaker}

-- What passes, if something does.
pub passing : {X : Type 0} (f : X → Bool) (o : Option X) → some_passes f o ≡ true
    → (x : X) × (o ≡ Some x) × (f x ≡ true)
passing f None h = cc
passing f (Some x) h = (x, refl, h)

none-and : {X : Type 0} (f : X → Bool) (xs : List X) → list_any (λ x. f x && false) xs ≡ false
none-and f [] = refl
none-and f (x ∷ xs) = rw (and_right (f x) false refl) (none-and f xs)

nothing-ignored : (P : Parts) (s : Path) (qs : List Path) → P.ignore ≡ []
    → list_any (λ q. is_over s q && is_ignored P q) qs ≡ false
nothing-ignored P s qs none =
    any-alike (λ q. is_over s q && is_ignored P q) (λ q. is_over s q && false) qs
    (λ q. ap (λ (i : List Specification). is_over s q
    && (list_any (λ t. matches t q) i && not (list_any (λ t. matches t q) P.ignorenot))) none)
    ∙ none-and (is_over s) qs

-- Only paths are reached.
pub reach-is_path : (P : Parts) (p : Path) → IsTrue (reach P p) → IsTrue (is_path p)
unfolding reach
reach-is_path P p h = (and_parts (is_path p) _ h).0

-- What is reached lies at or below a kept value.
pub reach-below : (P : Parts) (p : Path) → IsTrue (reach P p)
    → IsTrue (list_any (λ s. is_over s p) P.paths)
unfolding reach
reach-below P p h =
    any-weaker (λ s. is_over s p && is_open P s p) (λ s. is_over s p) P.paths
    (λ s e. (and_parts (is_over s p) (is_open P s p) e).0) (and_parts (is_path p) _ h).1

-- Where nothing is ignored, all that lies at or below a kept value is reached.
pub reach-open : (P : Parts) (p : Path) → P.ignore ≡ []
    → reach P p ≡ (is_path p && list_any (λ s. is_over s p) P.paths)
unfolding reach
reach-open P p none =
    ap (λ b. is_path p && b)
    (any-alike (λ s. is_over s p && is_open P s p) (λ s. is_over s p) P.paths
    (λ s. rw (nothing-ignored P s (prefixes p) none) (and-true (is_over s p))))
