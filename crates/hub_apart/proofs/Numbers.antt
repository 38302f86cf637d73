-- The numbers of near profiles are numbers of profiles.
use Rattle.std.proofs.Common.{◌≡◌, inl, inr, ◌<◌, ◌≤◌, ◌+◌, true, ℕ, suc, List, [], ◌∷◌, length, refl, subst, arith}
use Rattle.std.specs.Prelude.{nat_lt}
use Rattle.std.specs.List.{flat_map, list_all}
use Rattle.std.proofs.lemmas.Bool.{and_from}
use Rattle.std.proofs.lemmas.Bool.Decides.{nat_tests}
use Rattle.hub_path.specs.Path.{Path}
use Rattle.hub_profile.specs.Parts.{Parts}
use Rattle.hub_parts.specs.Clashing.{AreNear, AreNearPairs}
use Rattle.hub_parts.specs.Values.{values, values_at, values_from, values_of_one}
use Rattle.hub_apart.specs.UnisonLines.{AreWithin}
use Rattle.hub_apart.proofs.Items.{all-append, passes}

module _ (many : ℕ) where
  at-root : (i : ℕ) (r : Path) (vs : List Path) → nat_lt i many ≡ true → list_all (λ k. nat_lt k.profile many) (values_at i r vs) ≡ true
  at-root i r [] l = refl
  at-root i r (v ∷ vs) l = and_from (nat_lt i many) (list_all (λ k. nat_lt k.profile many) (values_at i r vs)) l (at-root i r vs l)

  of-one : (i : ℕ) (rs vs : List Path) → nat_lt i many ≡ true → list_all (λ k. nat_lt k.profile many) (flat_map (λ r. values_at i r vs) rs) ≡ true
  of-one i [] vs l = refl
  of-one i (r ∷ rs) vs l = all-append (λ k. nat_lt k.profile many) (values_at i r vs) (flat_map (λ q. values_at i q vs) rs) (at-root i r vs l) (of-one i rs vs l)

  of-all : (i : ℕ) (Ps : List Parts) → i + length Ps ≤ many → list_all (λ k. nat_lt k.profile many) (values_from i Ps) ≡ true
  of-all i [] l = refl
  of-all i (P ∷ Ps) l =
      all-append (λ k. nat_lt k.profile many) (values_of_one i P) (values_from (suc i) Ps)
      (of-one i P.roots P.paths (before l)) (of-all (suc i) Ps (omega (arith, l)))
    where
      before : i + length (P ∷ Ps) ≤ many → nat_lt i many ≡ true
      before h = let less : i < many = omega (arith, h) in grind (arith, nat_tests, less)

less : (a b : ℕ) → nat_lt a b ≡ true → a < b
less a b h = grind (arith, nat_tests, h)

within : (Ps : List Parts) (i j : ℕ) → AreNear Ps i j → j < length Ps
within Ps i j (inl over) =
    subst (λ n. n < length Ps) over.5 (less over.1.profile (length Ps) (passes (λ k. nat_lt k.profile (length Ps)) (values Ps) over.1 (of-all (length Ps) 0 Ps (omega arith)) over.3))
within Ps i j (inr over) =
    subst (λ n. n < length Ps) over.4 (less over.0.profile (length Ps) (passes (λ k. nat_lt k.profile (length Ps)) (values Ps) over.0 (of-all (length Ps) 0 Ps (omega arith)) over.2))

pub near-within : (Ps : List Parts) (ps : List (ℕ × ℕ)) → AreNearPairs Ps ps → AreWithin (length Ps) ps
near-within Ps ps near pair m =
    let exact = near.exact pair.0 pair.1 m in (exact.0, within Ps pair.0 pair.1 exact.1)
