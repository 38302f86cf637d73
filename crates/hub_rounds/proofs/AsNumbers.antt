-- Profiles that stand where their numbers do.
use Rattle.std.proofs.Common.{◌≡◌, ◌∙◌, ◌++◌, ◌∷◌, [], ⊎_elim, ℕ, List, length, map, Some, sym, ap, subst, arith}
use Rattle.std.specs.Prelude.{slice_get}
use Rattle.std.proofs.lemmas.List.{length-map}
use Rattle.std.proofs.lemmas.Option.{none-some, slice_get_within}
use Rattle.hub_text.specs.laws.List.{has-item, snoc-cases}
use Rattle.hub_profile.specs.Parts.{Parts}
use Rattle.hub_cert.specs.declared.fault.CheckFault.{CheckFault}
use Rattle.hub_rounds.specs.Numbered.{AreAllRivals, AreNumbersPlaced, AreNumbersSplit, AreRivalNumbers, NumberStandsIn, StandAsNumbers}
use Rattle.hub_rounds.specs.Rounds.{ArePlaced, AreRivals, AreSplit, AreWhole, StandsIn, is_in_some}
use Rattle.hub_rounds.specs.declared.placing.Placed.{Placed}
use Rattle.hub_rounds.specs.declared.placing.Placing.{Placing}

-- There are as many profiles as numbers.
pub as-many : (ps : List Placed) (Ps : List Parts) (qs : List Placing) → map (λ p. p.profile) ps ≡ Ps → length qs ≡ length Ps → length qs ≡ length ps
as-many ps Ps qs all many = many ∙ (sym (ap length all) ∙ length-map ps (λ (p : Placed). p.profile))

-- The number of a profile, and the profile of a number.
pub placing-of : (qs : List Placing) (ps : List Placed) (i : ℕ) (p : Placed) → length qs ≡ length ps → StandAsNumbers qs ps → slice_get ps i ≡ Some p → slice_get qs i ≡ Some p.placing
placing-of qs ps i p equal so at =
    let own = slice_get_within ps i p at in
    let w = has-item qs i (omega (arith, own, equal)) in
    w.1 ∙ ap Some (sym (so i p w.0 at w.1))

pub profile-of : (qs : List Placing) (ps : List Placed) (i : ℕ) (q : Placing) → length qs ≡ length ps → StandAsNumbers qs ps → slice_get qs i ≡ Some q
    → (p : Placed) × (slice_get ps i ≡ Some p) × (p.placing ≡ q)
profile-of qs ps i q equal so at =
    let own = slice_get_within qs i q at in
    let w = has-item ps i (omega (arith, own, equal)) in
    (w.0, w.1, so i w.0 q w.1 at)

-- One more profile.
pub none-so : (qs : List Placing) → StandAsNumbers qs []
none-so qs = λ i p q at own. absurd (none-some p at)

pub one-more-so : (qs : List Placing) (ps : List Placed) (p : Placed) → ((q : Placing) → slice_get qs (length ps) ≡ Some q → p.placing ≡ q) → StandAsNumbers qs ps → StandAsNumbers qs (ps ++ p ∷ [])
one-more-so qs ps p is so = λ i r q at own. ⊎_elim
    (λ old. so i r q old own)
    (λ new. subst (λ (x : Placed). x.placing ≡ q) new.1 (is q (subst (λ (n : ℕ). slice_get qs n ≡ Some q) new.0 own)))
    (snoc-cases ps p r i at)

-- What holds of numbers holds of profiles.
stands : (qs : List Placing) (ps : List Placed) (k i : ℕ) → length qs ≡ length ps → StandAsNumbers qs ps → StandsIn ps k i → NumberStandsIn qs k i
stands qs ps k i equal so h = (h.0.placing, placing-of qs ps i h.0 equal so h.1, h.2)

pub profiles-told : (es : List CheckFault) (qs : List Placing) (ps : List Placed) (count : ℕ) → length qs ≡ length ps → StandAsNumbers qs ps → AreNumbersPlaced es count qs → ArePlaced es count ps
profiles-told es qs ps count equal so told = λ i p at. told i p.placing (placing-of qs ps i p equal so at)

pub profiles-split : (es : List CheckFault) (qs : List Placing) (ps : List Placed) → length qs ≡ length ps → StandAsNumbers qs ps → AreNumbersSplit es qs → AreSplit es ps
profiles-split es qs ps equal so split = λ i j k l in_i in_j pair. split i j k l (stands qs ps k i equal so in_i) (stands qs ps k j equal so in_j) pair

pub profiles-rivals : (es : List CheckFault) (qs : List Placing) (ps : List Placed) (ns : List ℕ) → length qs ≡ length ps → StandAsNumbers qs ps → AreRivalNumbers es qs ns → AreRivals es ps ns
profiles-rivals es qs ps ns equal so are = record {
  placed = λ m i at.
      let h = are.placed m i at in
      let v = profile-of qs ps i h.0 equal so h.1 in
      (v.0, v.1, ap is_in_some v.2 ∙ h.2);
  clash = are.clash;
}

pub profiles-whole : (es : List CheckFault) (qs : List Placing) (ps : List Placed) (ns : List ℕ) → length qs ≡ length ps → StandAsNumbers qs ps → AreAllRivals es qs ns → AreWhole es ps ns
profiles-whole es qs ps ns equal so whole = λ i out may. whole i out (record {
  placed = (may.placed.0.placing, placing-of qs ps i may.placed.0 equal so may.placed.1, may.placed.2);
  clashes = may.clashes;
})
