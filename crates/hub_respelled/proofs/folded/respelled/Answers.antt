use Rattle.std.proofs.Common.{List, subst, sym, ◌∙◌}
use Rattle.std.specs.Prelude.{MatchOption}
use Rattle.hub_bundle.specs.Sections.{Spells}
use Rattle.hub_bundle.specs.declared.sections.BundleContents.{BundleContents}
use Rattle.hub_preferences.specs.Counted.{counted_bundle}
use Rattle.hub_respelled.proofs.folded.respelled.Goals as goal

pub returns-clause-ok : goal.returns-clause-ok
returns-clause-ok c =
    let bytes = c.as_slice.result.now in
    let none = subst (λ o. MatchOption o ((own : BundleContents) → Spells (counted_bundle bytes) own → ⊥) (Spells (counted_bundle bytes))) c.in-None.is c.in_ok-own.ensures in
    λ own spells. none own (subst (λ b. Spells (counted_bundle b) own) (sym (c.as_slice.ensures.value ∙ c.in_ok-caseless.ensures)) spells)
