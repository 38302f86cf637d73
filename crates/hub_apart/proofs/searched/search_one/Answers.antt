use Rattle.std.proofs.Common.{◌≡◌, ◌∙◌, ◌++◌, ◌∷◌, [], List, ap, subst}
use Rattle.hub_profile.specs.Parts.{Parts}
use Rattle.hub_apart.specs.ApartLines.{Adds, AreLinesOf}
use Rattle.hub_apart.proofs.searched.search_one.Goals as goal

pub returns-in-Some-clause-lines : goal.returns-in-Some-clause-lines
returns-in-Some-clause-lines c =
    let own : c.push.new.self ≡ c.args.profile ∷ [] = c.in_ok-push.ensures.ok ∙ ap (λ (Ps : List Parts). Ps ++ c.args.profile ∷ []) c.new-own.ensures in
    subst (λ (Ps : List Parts). Adds (AreLinesOf (record { profiles = Ps; rules = c.args.rules }) c.args.number c.args.number) c.args.lines.now.items c.search_set.new.lines.items)
    own c.in_ok-profiles.ensures.lines
