use Rattle.std.proofs.Common.{◌∙◌, List, IsTrue, sym, ap, subst}
use Rattle.hub_path.specs.Path.{Path}
use Rattle.hub_profile.specs.Facts.{are_roots, are_kept}
use Rattle.hub_profile.specs.Said.{Said}
use Rattle.hub_profile.specs.Parts.{IsProfile}
use Rattle.hub_profile.specs.Reading.{roots_fault, profile}
use Rattle.hub_profile.proofs.ProfileFacts.{IsProfile-profile}
use Rattle.hub_profile.proofs.draft.Draft.into_profile.Goals as goal

pub invariant_of-result : goal.invariant_of-result
invariant_of-result c =
    let fine = ap (λ (s : Said). roots_fault s.roots) (sym c.self.view_is) ∙ c.in_ok-left.ensures.fine in
    let facts = IsProfile-profile c.args.name c.args.self c.requires.roots c.requires.paths fine in
    let own = subst (λ (s : Said). IsProfile (profile c.args.name s)) (sym c.self.view_is) facts in
    record {
      roots = subst (λ (rs : List Path). IsTrue (are_roots rs)) (sym c.in_ok-left.ensures.ok) own.roots;
      paths = subst (λ (ps : List Path). IsTrue (are_kept ps)) (sym c.in_ok-paths.ensures) own.paths;
    }
