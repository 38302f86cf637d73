-- Worked examples of jobs that clash.
use Rattle.std.specs.Prelude.{⊤, ◌≡◌, ◌≢◌, ◌⊎◌, ◌||◌, zero, suc, true, false, List, [], ◌∷◌, codes, map, refl}
use Rattle.std.proofs.Common.{inl, inr, sym, subst}
use Rattle.std.proofs.lemmas.Bool.{false≢true, or_cases}
use Rattle.std.proofs.lemmas.Option.{same_Some}
use Rattle.hub_path.specs.Path.{Path, path_eq, path_of}
use Rattle.hub_glob.specs.Glob.{matches}
use Rattle.hub_profile.specs.Parts.{Parts, IsProfile}
use Rattle.hub_profile.specs.examples.Profiles.{between, hub, s1, s2}
use Rattle.hub_reach.specs.Reach.{reach, has_root}
use Rattle.hub_reach.specs.Safe.{Clash}
use Rattle.hub_reconcile.specs.laws.Views.{same_paths}
use Rattle.hub_serial.specs.Clash.{AreProfiles, JobsClash, NoneClashesWith}
use Rattle.hub_serial.specs.World.{RootPair, pair_eq, pair_of}
use Rattle.hub_serial.specs.examples.Clashes.{twice}
use Rattle.hub_serial.specs.examples.Starts.{P, a}

-- What these examples compute.
computed : ⊤
unfolding reach matches
computed = tt

-- The pair of a profile's roots is that of the profile with its roots the other way round.
whichever_is_left : pair_of (between (codes "a") s1 hub a) ≡ pair_of P
whichever_is_left = refl

abbrev pairs : List RootPair
pairs = (hub, s1) ∷ (hub, s2) ∷ (s1, hub) ∷ []

the_lesser_root_first : map (pair_eq (pair_of P)) pairs ≡ true ∷ false ∷ false ∷ []
the_lesser_root_first = refl

it_is_a_profile : IsProfile P
it_is_a_profile = record { roots = refl; paths = refl }

pub both_are_profiles : AreProfiles twice
both_are_profiles zero Q e = subst IsProfile (same_Some P Q e) it_is_a_profile
both_are_profiles (suc zero) Q e = subst IsProfile (same_Some P Q e) it_is_a_profile
both_are_profiles (suc (suc j)) Q e = cc

a_profile_has_two_roots : ¬ (AreProfiles (record P { roots = hub ∷ [] } ∷ []))
a_profile_has_two_roots facts =
    let h : false ≡ true = (facts 0 (record P { roots = hub ∷ [] }) refl).roots in cc

-- Two starts of one profile clash in their archive.
pub two_starts_clash : JobsClash twice 0 1
unfolding computed
two_starts_clash = (P, P, refl, refl, inl (inr (refl, (a, a, refl, refl, refl))))

there_is_no_third_job : ¬ (JobsClash twice 0 2)
there_is_no_third_job (A, B, p, q, clash) = cc

-- The same folder between two other roots.
abbrev Q : Parts
Q = between (codes "b") s2 (path_of (codes "srv/s3")) a

no_root_of_both : (r : Path) → has_root P r ≡ true → has_root Q r ≡ true → ⊥
no_root_of_both r h g =
    elim (or_cases (path_eq hub r) (path_eq s1 r || false) h) [
      | inl e ↦ false≢true (subst (λ x. has_root Q x ≡ true) (sym (same_paths hub r e)) g)
      | inr f ↦ elim (or_cases (path_eq s1 r) false f) [
        | inl e ↦ false≢true (subst (λ x. has_root Q x ≡ true) (sym (same_paths s1 r e)) g)
        | inr n ↦ false≢true n
      ]
    ]

apart : Clash P Q ⊎ Clash Q P → ⊥
apart (inl (inl (r, h, g, o))) = no_root_of_both r h g
apart (inl (inr (s, o))) = false≢true s
apart (inr (inl (r, h, g, o))) = no_root_of_both r g h
apart (inr (inr (s, o))) = false≢true s

without_a_common_root_none_clash : ¬ (JobsClash (P ∷ Q ∷ []) 0 1)
without_a_common_root_none_clash (A, B, p, q, clash) =
    apart (subst (λ X. Clash P X ⊎ Clash X P) (sym (same_Some Q B q))
    (subst (λ X. Clash X B ⊎ Clash B X) (sym (same_Some P A p)) clash))

-- A job's own turns aren't counted.
its_own_turns_do_not_count : NoneClashesWith twice 0 (0 ∷ 0 ∷ [])
its_own_turns_do_not_count zero k e off clash = off (sym (same_Some 0 k e))
its_own_turns_do_not_count (suc zero) k e off clash = off (sym (same_Some 0 k e))
its_own_turns_do_not_count (suc (suc c)) k e off clash = cc

those_of_the_other_start_do : ¬ (NoneClashesWith twice 0 (0 ∷ 1 ∷ []))
those_of_the_other_start_do none = none 1 1 refl (λ e. cc) two_starts_clash
