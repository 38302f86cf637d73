use Rattle.std.proofs.Common.{◌≡◌, ◌∙◌, ℕ, List, sym, subst}
use Rattle.std.specs.List.{flat_map}
use Rattle.std.proofs.lemmas.Result.{IfErr-weaker, err_from_is_err_and}
use Rattle.hub_automaton.specs.Alphabet.{RefusesCharacters, plain, spec_characters, with_characters}
use Rattle.hub_automaton.specs.laws.AddedInTurn.{refused-after, refused-before}
use Rattle.hub_profile.specs.Parts.{Parts}
use Rattle.hub_profile.specs.declared.rule.Rule.{Rule}
use Rattle.hub_reach.specs.Mention.{mentioned_by}
use Rattle.hub_apart.proofs.searched.mention_all.Goals as goal

pub returns-in_err-mention_each : goal.returns-in_err-mention_each
returns-in_err-mention_each c = λ S ps rs.
    let p = err_from_is_err_and c.from_residual-in_err-mention_each.result c.from_residual-in_err-mention_each.ensures.1 in
    let e = c.in_err-mention_each.field-0.0 in
    rw (p.1, p.2)
    (refused-before plain (flat_map mentioned_by S.profiles) (flat_map (λ (R : Rule). spec_characters R.spec) S.rules) e
    (subst (λ (Ps : List Parts). RefusesCharacters plain (flat_map mentioned_by Ps) e) (sym ps)
    (subst (λ (ms : List ℕ). RefusesCharacters ms (flat_map mentioned_by c.args.profiles.now) e) c.in_ok-alphabet.ensures.ok c.in_err-mention_each.ensures.err)))

pub returns : goal.returns
returns c = λ S ps rs.
    let now = c.mention_each.new.alphabet in
    let first : now ≡ with_characters plain (flat_map mentioned_by S.profiles) = c.in_ok-mention_each.ensures.ok ∙ (λ i. with_characters (c.in_ok-alphabet.ensures.ok i) (flat_map mentioned_by (sym ps i))) in
    IfErr-weaker c.mention_each-2.result _ _
    (λ e h. refused-after plain now (flat_map mentioned_by S.profiles) (flat_map (λ (R : Rule). spec_characters R.spec) S.rules) e first
    (subst (λ (Rs : List Rule). RefusesCharacters now (flat_map (λ (R : Rule). spec_characters R.spec) Rs) e) (sym rs) h))
    c.mention_each-2.ensures.err
