-- Rounds that the check refuses.
use Rattle.std.specs.Prelude.{◌≡◌, ◌⊎◌, ◌<◌, ⊤, ℕ, Bool, true, false, List, map}
use Rattle.hub_profile.specs.declared.rule.Rule.{Rule}
use Rattle.hub_cert.specs.Refused.{IsRefused}
use Rattle.hub_cert.specs.Set.{Members}
use Rattle.hub_cert.specs.declared.fault.CheckFault.{CheckFault}
use Rattle.hub_cert.specs.declared.fault.CheckFault.TheVariants as fault
use Rattle.hub_search.specs.Search.{IsFirstFault}
use Rattle.hub_rounds.specs.Rounds.{AreSplit, ArePlaced, profiles_in_round}
use Rattle.hub_rounds.specs.declared.fault.RoundsFault.{RoundsFault}
use Rattle.hub_rounds.specs.declared.fault.RoundsFault.TheVariants.{NotVerified, OutOfMemory}
use Rattle.hub_rounds.specs.declared.placing.Placed.{Placed}

-- A fault says that memory is out.
abbrev pub is_memory : CheckFault → Bool
is_memory fault.OutOfMemory = true
is_memory other = false

-- These profiles and rules are refused with this fault: they are no set, or the set isn't verified.
abbrev pub RefusesRound : Members → CheckFault → Type 0
RefusesRound S f = IsRefused S f ⊎ IsFirstFault S f

-- They are refused, and not for want of memory.
abbrev pub IsRefusedRound : Members → Type 0
IsRefusedRound S = (f : CheckFault) × RefusesRound S f × (is_memory f ≡ false)

-- The fault says that this round isn't verified, which is refused, or that memory is out.
abbrev pub IsFaultOf : ℕ → Members → RoundsFault → Type 0
IsFaultOf k S (NotVerified round) = (round ≡ k) × IsRefusedRound S
IsFaultOf k S OutOfMemory = ⊤

-- It says that of a round of profiles which stand so, below this number.
abbrev pub IsFaultBelow : ℕ → List Placed → List Rule → RoundsFault → Type 0
IsFaultBelow count ps Rs (NotVerified k) =
    (k < count) × IsRefusedRound (record { profiles = profiles_in_round k ps; rules = Rs })
IsFaultBelow count ps Rs OutOfMemory = ⊤

-- A round of a set is refused, where the profiles stand in rounds by these lines, and no two of a
-- round have one.
pub record HasRefusedRound (S : Members) (es : List CheckFault) (e : RoundsFault) : Type 0 where
  pub placed : List Placed
  pub count : ℕ
  pub all : map (λ p. p.profile) placed ≡ S.profiles
  pub told : ArePlaced es count placed
  pub split : AreSplit es placed
  pub refused : IsFaultBelow count placed S.rules e

-- The fault by which a set isn't cut into rounds by these lines.
abbrev pub IsRoundsFault : Members → List CheckFault → RoundsFault → Type 0
IsRoundsFault S es (NotVerified k) = HasRefusedRound S es (NotVerified k)
IsRoundsFault S es OutOfMemory = ⊤
