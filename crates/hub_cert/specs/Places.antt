-- Profiles by the numbers of their roots.
use Rattle.std.specs.Prelude.{◌≡◌, ◌==◌, ℕ, Bool, ◌&&◌, ◌||◌, List, [], ◌∷◌, length, slice_get, Some}
use Rattle.hub_path.specs.Path.{Path}
use Rattle.hub_path.specs.declared.side.Side.TheVariants.{Left, Right}
use Rattle.hub_profile.specs.Parts.{Parts}
use Rattle.hub_reach.specs.Numbering.{IsEachOnce}
use Rattle.hub_reach.specs.Reach.{writes}
use Rattle.hub_cert.specs.declared.goal.Place.{Place}
use Rattle.hub_cert.specs.declared.goal.Place.TheVariants.{Replica, Archive}
use Rattle.hub_cert.specs.declared.set.places.RootNumbers.{RootNumbers}

-- Each root of the old list has its place in the new one.
abbrev pub KeepPlaces : List Path → List Path → Type 0
KeepPlaces old new = (n : ℕ) (r : Path) → slice_get old n ≡ Some r → slice_get new n ≡ Some r

-- The numbers are the places of the profile's roots in the list, with whether it writes there.
pub record AreNumbersOf (rs : List Path) (P : Parts) (n : RootNumbers) : Type 0 where
  pub left : Path
  pub right : Path
  pub roots : P.roots ≡ left ∷ right ∷ []
  pub at_left : slice_get rs n.left ≡ Some left
  pub at_right : slice_get rs n.right ≡ Some right
  pub writes_left : n.writes_left ≡ writes P left
  pub writes_right : n.writes_right ≡ writes P right

-- The numbers in that place are those of the profile.
abbrev pub HasNumbersAt : List Path → List RootNumbers → ℕ → Parts → Type 0
HasNumbersAt rs ns i P =
    (n : RootNumbers) × (slice_get ns i ≡ Some n) × AreNumbersOf rs P n

-- Each profile has numbers, of a list in which no root is twice.
pub record AreNumbered (Ps : List Parts) (ns : List RootNumbers) : Type 0 where
  pub roots : List Path
  pub once : IsEachOnce roots
  pub many : length ns ≡ length Ps
  pub each : (i : ℕ) (P : Parts) → slice_get Ps i ≡ Some P → HasNumbersAt roots ns i P

-- That is the number of one of the roots.
abbrev pub has_number : RootNumbers → ℕ → Bool
has_number n m = n.left == m || n.right == m

-- The profiles with these numbers share the place.
abbrev pub shares_by : RootNumbers → RootNumbers → Place → Bool
shares_by w o (Replica Left) = w.writes_left && has_number o w.left
shares_by w o (Replica Right) = w.writes_right && has_number o w.right
shares_by w o Archive = has_number o w.left && has_number o w.right
