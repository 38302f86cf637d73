-- Sets that the check refuses.
use Rattle.std.proofs.Common.{◌≡◌, ◌<◌, ℕ, List, map, sym, subst}
use Rattle.hub_profile.specs.Parts.{Parts}
use Rattle.hub_profile.specs.declared.rule.Rule.{Rule}
use Rattle.hub_cert.specs.Set.{Members}
use Rattle.hub_cert.specs.declared.fault.CheckFault.{CheckFault}
use Rattle.hub_rounds.specs.Rounds.{AreSplit, ArePlaced, profiles_in_round}
use Rattle.hub_rounds.specs.Unverified.{IsFaultBelow, IsFaultOf, IsRefusedRound, IsRoundsFault}
use Rattle.hub_rounds.specs.declared.fault.RoundsFault.{RoundsFault}
use Rattle.hub_rounds.specs.declared.fault.RoundsFault.TheVariants.{NotVerified, OutOfMemory}
use Rattle.hub_rounds.specs.declared.placing.Placed.{Placed}

-- The fault of a round of profiles that stand so,
pub fault-below : (count k : ℕ) (ps : List Placed) (Rs Qs : List Rule) (Ps : List Parts) (e : RoundsFault) → k < count → Ps ≡ profiles_in_round k ps → Qs ≡ Rs
    → IsFaultOf k (record { profiles = Ps; rules = Qs }) e → IsFaultBelow count ps Rs e
fault-below count k ps Rs Qs Ps OutOfMemory l own rules h = tt
fault-below count k ps Rs Qs Ps (NotVerified n) l own rules h = (
  subst (λ (x : ℕ). x < count) (sym h.0) l,
  subst (λ (x : ℕ). IsRefusedRound (record { profiles = profiles_in_round x ps; rules = Rs })) (sym h.0)
      (subst (λ (Xs : List Rule). IsRefusedRound (record { profiles = profiles_in_round k ps; rules = Xs })) rules
      (subst (λ (Xs : List Parts). IsRefusedRound (record { profiles = Xs; rules = Qs })) own h.1)),
)

-- and of the set that they are.
pub rounds-fault : (S : Members) (es : List CheckFault) (ps : List Placed) (count : ℕ) (Rs : List Rule) (e : RoundsFault) → map (λ p. p.profile) ps ≡ S.profiles → ArePlaced es count ps → AreSplit es ps → Rs ≡ S.rules
    → IsFaultBelow count ps Rs e → IsRoundsFault S es e
rounds-fault S es ps count Rs OutOfMemory all told split rules h = tt
rounds-fault S es ps count Rs (NotVerified n) all told split rules h = record {
  placed = ps;
  count = count;
  all = all;
  told = told;
  split = split;
  refused = (h.0, subst (λ (Xs : List Rule). IsRefusedRound (record { profiles = profiles_in_round n ps; rules = Xs })) rules h.1);
}
