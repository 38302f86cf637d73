use Rattle.std.proofs.Common.{◌≡◌, ℕ, Some}
use Rattle.std.specs.Prelude.{slice_get}
use Rattle.hub_profile.specs.Parts.{Parts}
use Rattle.hub_apart.specs.ApartLines.{AreLinesApart}
use Rattle.hub_apart.proofs.searched.search_each.Given as goal

abbrev pub invariant-loop-profile : goal.invariant-loop-profile
invariant-loop-profile l = record {
  before : l.before.items ≡ l.yielded;
  seen : (i : ℕ) (P : Parts) → slice_get l.yielded i ≡ Some P → slice_get l.fn.profiles.items i ≡ Some P;
  rules : l.rules ≡ l.fn.rules;
  lines : AreLinesApart (record { profiles = l.yielded; rules = l.fn.rules }) l.lines.items;
}
