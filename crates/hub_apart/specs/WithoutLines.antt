-- What lines in Unison say of the profiles that they aren't about.
use Rattle.std.specs.Prelude.{◌≡◌, ◌≢◌, ℕ, List, slice_get, Some}
use Rattle.hub_profile.specs.Parts.{Parts}
use Rattle.hub_profile.specs.declared.rule.Rule.{Rule}
use Rattle.hub_cert.specs.declared.fault.CheckFault.{CheckFault}
use Rattle.hub_parts.specs.Anywhere.{UnisonWideClash}
use Rattle.hub_rounds.specs.Lines.{HasNoOwnLine, HasPair}
use Rattle.hub_unison.specs.Matching.{IsMatching, Matching}
use Rattle.hub_unison.specs.Written.{AreWrittenAs, Written}
use Rattle.hub_apart.specs.UnisonLines.{AreLinesInUnison, AreValid}

-- Profiles as their lines say them to Unison have these lines: those of what hubsync reads of them.
pub record HaveLinesInUnison (Ws : List Written) (Rs : List Rule) (es : List CheckFault)
    : Type 0 where
  pub parts : List Parts
  pub written : AreWrittenAs Ws parts
  pub valid : AreValid parts
  pub are : AreLinesInUnison parts Rs es

-- Some of all profiles, by their numbers among all: each is there once.
pub record AreSome (all some : List Written) (numbers : List ℕ) : Type 0 where
  pub place : (a : ℕ) (W : Written) → slice_get some a ≡ Some W
      → (i : ℕ) × (slice_get numbers a ≡ Some i) × (slice_get all i ≡ Some W)
  pub once : (a b i : ℕ) → slice_get numbers a ≡ Some i → slice_get numbers b ≡ Some i → a ≡ b

-- No line is about two of the profiles of these numbers, or about one of them alone.
abbrev pub HaveNoPair : List CheckFault → List ℕ → Type 0
HaveNoPair es numbers =
    (a b i j : ℕ) → a ≢ b → slice_get numbers a ≡ Some i → slice_get numbers b ≡ Some j
    → ¬ (HasPair es i j)

abbrev pub HaveNoOwnLine : List CheckFault → List ℕ → Type 0
HaveNoOwnLine es numbers = (a i : ℕ) → slice_get numbers a ≡ Some i → HasNoOwnLine es i

-- No run with V clashes with one with W, wherever the roots lie.
abbrev pub NeverClash : Written → Written → Type 0
NeverClash V W =
    (m n : Matching) → IsMatching m → IsMatching n → ¬ (UnisonWideClash m n V W)
