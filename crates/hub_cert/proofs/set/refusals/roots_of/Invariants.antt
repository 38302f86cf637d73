use Rattle.std.proofs.Common.{◌≡◌, ◌<◌, ◌++◌, ℕ, Some, map, take}
use Rattle.std.specs.Prelude.{slice_get}
use Rattle.std.specs.List.{flat_map}
use Rattle.hub_profile.specs.Parts.{Parts, IsProfile}
use Rattle.hub_profile.specs.declared.rule.Rule.{Rule}
use Rattle.hub_cert.proofs.set.refusals.roots_of.Given as goal

abbrev pub invariant-loop-profile : goal.invariant-loop-profile
invariant-loop-profile l = (l.roots.items ≡ flat_map (λ (P : Parts). P.roots) (take l.profile-index l.profiles)) × ((i : ℕ) (P : Parts) → i < l.profile-index → slice_get l.profiles i ≡ Some P → IsProfile P)

abbrev pub invariant-loop-rule : goal.invariant-loop-rule
invariant-loop-rule l = l.roots.items ≡ flat_map (λ (P : Parts). P.roots) l.profiles ++ map (λ (Q : Rule). Q.root) (take l.rule-index l.rules)
