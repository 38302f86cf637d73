-- Worked examples of places.
use Rattle.std.specs.Prelude.{◌≡◌, ℕ, List, [], ◌∷◌, ◌++◌, length, None, Some, refl, codes}
use Rattle.hub_path.specs.Path.{Path, path_of}
use Rattle.hub_profile.specs.Parts.{Parts}
use Rattle.hub_profile.specs.examples.Profiles.{between}
use Rattle.hub_runner.specs.Settling.{compared_places, roots_of}

abbrev root : List ℕ → Path
root t = path_of t

-- A profile between `/hub` and another root.
abbrev spoke : List ℕ → Parts
spoke t = between t (root (codes "hub")) (root t) []

abbrev star : List Parts
star = spoke (codes "s1") ∷ spoke (codes "s2") ∷ []

-- The hub is a root of both profiles, and comes once.
each_root_comes_once : roots_of star ≡ root (codes "hub") ∷ root (codes "s1") ∷ root (codes "s2")
    ∷ []
each_root_comes_once = refl

a_root_stays_at_its_first_place : roots_of (star ++ star) ≡ roots_of star
a_root_stays_at_its_first_place = refl

-- At each root the book comes first, and then each job.
places_go_by_roots_and_jobs : compared_places (spoke (codes "s1") ∷ []) ≡ (root (codes "hub"), None)
    ∷ (root (codes "hub"), Some 0) ∷ (root (codes "s1"), None) ∷ (root (codes "s1"), Some 0) ∷ []
places_go_by_roots_and_jobs = refl

two_jobs_have_nine_places : length (compared_places star) ≡ 9
two_jobs_have_nine_places = refl
