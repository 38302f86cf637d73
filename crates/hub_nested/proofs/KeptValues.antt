-- Kept values from above, and below a path.
use Rattle.std.proofs.Common.{◌≡◌, ◌==◌, cond, Bool, true, false, not, ◌&&◌, ◌||◌, List, [], ◌∷◌, ◌++◌, length, map, refl, ap, ◌∙◌}
use Rattle.std.specs.Prelude.{if◌then◌else◌}
use Rattle.std.specs.List.{filter, list_all, list_any}
use Rattle.std.proofs.lemmas.Bool.{and_parts}
use Rattle.std.proofs.lemmas.List.{length-map}
use Rattle.hub_path.specs.Path.{Path, is_over, is_place, none_over}
use Rattle.hub_profile.specs.Facts.{are_kept}
use Rattle.hub_nested.specs.Lifted.{paths_below}
use Rattle.hub_nested.proofs.Reaching.{over-below, places-both}

-- The parts of what holds of kept values.
record AreKept (vs : List Path) : Type 0 where
  some : not (length vs == 0) ≡ true
  places : list_all is_place vs ≡ true
  apart : none_over vs ≡ true

kept-parts : (vs : List Path) → are_kept vs ≡ true → AreKept vs
kept-parts vs h =
    let all = and_parts (not (length vs == 0) && list_all is_place vs) (none_over vs) h in
    let one = and_parts (not (length vs == 0)) (list_all is_place vs) all.0 in
    record { some = one.0; places = one.1; apart = all.1 }

kept-from : (vs : List Path) → not (length vs == 0) ≡ true → list_all is_place vs ≡ true → none_over vs ≡ true → are_kept vs ≡ true
kept-from vs some places apart = (λ i. (some i && places i) && apart i)

module _ (x : Path) (place : is_place x ≡ true) where
  places-above : (vs : List Path) → list_all is_place vs ≡ true → list_all is_place (map (λ v. x ++ v) vs) ≡ true
  places-above [] h = refl
  places-above (v ∷ vs) h =
      let parts = and_parts (is_place v) (list_all is_place vs) h in
      (λ i. (places-both x v ∙ (λ j. place j && parts.0 j)) i && places-above vs parts.1 i)

  one-above : (v : Path) (vs : List Path)
      → list_all (λ q. not (is_over (x ++ v) q || is_over q (x ++ v))) (map (λ w. x ++ w) vs)
      ≡ list_all (λ q. not (is_over v q || is_over q v)) vs
  one-above v [] = refl
  one-above v (w ∷ vs) = (λ i. not (over-below x v w i || over-below x w v i) && one-above v vs i)

  apart-above : (vs : List Path) → none_over (map (λ v. x ++ v) vs) ≡ none_over vs
  apart-above [] = refl
  apart-above (v ∷ vs) = (λ i. one-above v vs i && apart-above vs i)

  pub kept-above : (vs : List Path) → are_kept vs ≡ true → are_kept (map (λ v. x ++ v) vs) ≡ true
  kept-above vs h =
      let own = kept-parts vs h in
      kept-from (map (λ v. x ++ v) vs)
      (ap (λ n. not (n == 0)) (length-map vs (λ v. x ++ v)) ∙ own.some)
      (places-above vs own.places) (apart-above vs ∙ own.apart)

  -- Of some values.
  all-filter : (f p : Path → Bool) (vs : List Path) → list_all f vs ≡ true → list_all f (filter p vs) ≡ true
  all-filter f p [] h = refl
  all-filter f p (v ∷ vs) h = go (p v) (and_parts (f v) (list_all f vs) h).0 (all-filter f p vs (and_parts (f v) (list_all f vs) h).1)
    where
      go : (b : Bool) → f v ≡ true → list_all f (filter p vs) ≡ true → list_all f (cond b (v ∷ filter p vs) (filter p vs)) ≡ true
      go true one rest = (λ i. one i && rest i)
      go false one rest = rest

  apart-filter : (p : Path → Bool) (vs : List Path) → none_over vs ≡ true → none_over (filter p vs) ≡ true
  apart-filter p [] h = refl
  apart-filter p (v ∷ vs) h =
      let parts = and_parts (list_all (λ q. not (is_over v q || is_over q v)) vs) (none_over vs) h in
      go (p v) (all-filter (λ q. not (is_over v q || is_over q v)) p vs parts.0) (apart-filter p vs parts.1)
    where
      go : (b : Bool) → list_all (λ q. not (is_over v q || is_over q v)) (filter p vs) ≡ true → none_over (filter p vs) ≡ true
          → none_over (cond b (v ∷ filter p vs) (filter p vs)) ≡ true
      go true one rest = (λ i. one i && rest i)
      go false one rest = rest

  pub kept-below : (vs : List Path) → are_kept vs ≡ true → (length (paths_below x vs) == 0) ≡ false → are_kept (paths_below x vs) ≡ true
  kept-below vs h some = go (list_any (λ v. is_over v x) vs) some
    where
      go : (b : Bool) → (length (if b then x ∷ [] else filter (λ v. is_over x v) vs) == 0) ≡ false
          → are_kept (if b then x ∷ [] else filter (λ v. is_over x v) vs) ≡ true
      go true none = (λ i. (true && (place i && true)) && (true && true))
      go false none =
          let own = kept-parts vs h in
          kept-from (filter (λ v. is_over x v) vs) (ap not none) (all-filter is_place (λ v. is_over x v) vs own.places)
          (apart-filter (λ v. is_over x v) vs own.apart)
