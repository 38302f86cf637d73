use Rattle.std.proofs.Common.{◌≡◌, ◌∙◌, ◌++◌, ◌∷◌, [], List, ap, inr, subst, sym}
use Rattle.hub_profile.specs.Parts.{Parts}
use Rattle.hub_profile.specs.declared.rule.Rule.{Rule}
use Rattle.hub_apart.specs.ApartLines.{Adds, AreLinesOf, AreLinesOfTwo, set_of_two}
use Rattle.hub_apart.proofs.Joining.{on-ok}
use Rattle.hub_apart.proofs.searched.search_two.Goals as goal

pub returns-clause-first : goal.returns-clause-first
returns-clause-first c =
    let both : c.push-3.new.self ≡ c.args.first ∷ c.args.second ∷ [] =
    c.in_ok-push-3.ensures.ok ∙ ap (λ (Ps : List Parts). Ps ++ c.args.second ∷ []) (c.in_ok-push-2.ensures.ok ∙ ap (λ (Ps : List Parts). Ps ++ c.args.first ∷ []) c.new-both.ensures) in
    c.two_of.ensures.first c.args.first c.args.second (c.in_ok-profiles.ensures.profiles ∙ both)

pub returns-clause-second : goal.returns-clause-second
returns-clause-second c =
    let both : c.push-3.new.self ≡ c.args.first ∷ c.args.second ∷ [] =
    c.in_ok-push-3.ensures.ok ∙ ap (λ (Ps : List Parts). Ps ++ c.args.second ∷ []) (c.in_ok-push-2.ensures.ok ∙ ap (λ (Ps : List Parts). Ps ++ c.args.first ∷ []) c.new-both.ensures) in
    c.two_of.ensures.second c.args.first c.args.second (c.in_ok-profiles.ensures.profiles ∙ both)

pub returns-clause-lines : goal.returns-clause-lines
returns-clause-lines c =
    let i = c.args.numbers.first in
    let j = c.args.numbers.second in
    let old = c.args.lines.now.items in
    let new = c.search_set.new.lines.items in
    let both : c.push-3.new.self ≡ c.args.first ∷ c.args.second ∷ [] =
    c.in_ok-push-3.ensures.ok ∙ ap (λ (Ps : List Parts). Ps ++ c.args.second ∷ []) (c.in_ok-push-2.ensures.ok ∙ ap (λ (Ps : List Parts). Ps ++ c.args.first ∷ []) c.new-both.ensures) in
    let h : Adds (AreLinesOf (set_of_two c.args.first c.args.second) i j) old new =
    subst (λ (Rs : List Rule). Adds (AreLinesOf (record { profiles = c.args.first ∷ c.args.second ∷ []; rules = Rs }) i j) old new) c.new.ensures
    (subst (λ (Ps : List Parts). Adds (AreLinesOf (record { profiles = Ps; rules = c.new.result }) i j) old new) both c.in_ok-profiles.ensures.lines) in
    on-ok c.two_of.result (Adds (AreLinesOfTwo c.args.first c.args.second i j) old new) (h.0, inr (sym c.have_nested.ensures ∙ c.if-have_nested.false, h.1), h.2)
