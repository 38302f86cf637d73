-- Rounds by their numbers, and sets that the check refuses.
use Rattle.std.specs.Prelude.{◌≡◌, ◌⊎◌, ◌<◌, ℕ, List, length, map, slice_get, Some}
use Rattle.std.specs.List.{range_with_len}
use Rattle.std.proofs.Common.{◌∙◌, ⊎_elim, ap, arith, get_or, inl, inr, subst, sym}
use Rattle.std.proofs.lemmas.List.FromFn.{get_or-map-range_with_len, length-map-range_with_len}
use Rattle.std.proofs.lemmas.Option.{get_or_from_slice_get, slice_get_within}
use Rattle.hub_profile.specs.Parts.{Parts}
use Rattle.hub_cert.specs.Refused.{IsRefused}
use Rattle.hub_cert.specs.Set.{Members}
use Rattle.hub_cert.specs.declared.fault.CheckFault.{CheckFault}
use Rattle.hub_cert.specs.declared.fault.CheckFault.TheVariants as fault
use Rattle.hub_search.specs.Search.{IsFirstFault}
use Rattle.hub_rounds.specs.Rounds.{AreRounds, profiles_in_round}
use Rattle.hub_rounds.specs.Unverified.{HasRefusedRound, IsRefusedRound, RefusesRound}
use Rattle.hub_rounds.specs.declared.fault.RoundsFault.TheVariants.{NotVerified}
use Rattle.hub_rounds.specs.declared.rounds.Rounds.{Rounds}

-- What a round has, by its number.
pub round-at : {X : Type 0} (count : ℕ) (rs : List X) (f : ℕ → X) (k : ℕ) (Ps : X)
    → rs ≡ map f (range_with_len 0 count) → slice_get rs k ≡ Some Ps → (k < count) × (Ps ≡ f k)
round-at count rs f k Ps is at =
    let many = ap length is ∙ length-map-range_with_len f 0 count in
    let within = slice_get_within rs k Ps at in
    let l : k < count = omega (arith, many, within) in
    let there = get_or-map-range_with_len f 0 count k k Ps l (omega arith) in (
      l,
      sym (get_or_from_slice_get rs k Ps Ps at) ∙ (ap (λ xs. get_or xs k Ps) is ∙ there),
    )

-- The fault of a check is one of a set that is refused, also that memory is out.
pub refused-by-check : (S : Members) (f : CheckFault)
    → (f ≡ fault.OutOfMemory) ⊎ IsFirstFault S f → RefusesRound S f
refused-by-check S f h =
    ⊎_elim
    (λ e. inl (subst (λ (x : CheckFault). IsRefused S x) (sym e) tt))
    (λ first. inr first)
    h

-- One of the rounds into which a set is cut is refused.
pub refused-round : (S : Members) (es : List CheckFault) (r : Rounds) (k : ℕ) (Ps : List Parts)
    → AreRounds S es r → slice_get r.rounds k ≡ Some Ps
    → IsRefusedRound (record { profiles = Ps; rules = S.rules })
    → HasRefusedRound S es (NotVerified k)
refused-round S es r k Ps are at h =
    let of = λ (n : ℕ). profiles_in_round n are.placed in
    let w = round-at (length r.rounds) r.rounds of k Ps are.rounds at in
    let is = λ (Qs : List Parts). IsRefusedRound (record { profiles = Qs; rules = S.rules }) in
    record {
      placed = are.placed;
      count = length r.rounds;
      all = are.all;
      told = are.told;
      split = are.split;
      refused = (w.0, subst is w.1 h);
    }
