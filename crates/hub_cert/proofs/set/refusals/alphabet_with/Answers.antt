use Rattle.std.proofs.Common.{◌≡◌, ◌∙◌, ℕ, List, sym, ap, subst}
use Rattle.std.specs.List.{flat_map}
use Rattle.std.proofs.lemmas.Result.{err_from_is_err_and}
use Rattle.hub_automaton.specs.Alphabet.{RefusesCharacters, mentions, plain, spec_characters, with_characters}
use Rattle.hub_profile.specs.Parts.{Parts}
use Rattle.hub_reach.specs.Mention.{mentioned_by}
use Rattle.hub_automaton.specs.laws.AddedInTurn.{added-after, refused-after, refused-before}
use Rattle.hub_cert.specs.Set.{mentioned_in}
use Rattle.hub_profile.specs.declared.rule.Rule.{Rule}
use Rattle.hub_cert.proofs.SetFacts.{all-mentioned}
use Rattle.hub_cert.proofs.set.refusals.alphabet_with.Goals as goal

pub returns-in_err-mention_each-clause-err : goal.returns-in_err-mention_each-clause-err
returns-in_err-mention_each-clause-err c = λ S ps rs.
    let p = err_from_is_err_and c.from_residual-in_err-mention_each.result c.from_residual-in_err-mention_each.ensures.1 in
    let e = c.in_err-mention_each.field-0.0 in
    rw (p.1, p.2)
    (refused-before plain (flat_map mentioned_by S.profiles) (flat_map (λ (R : Rule). spec_characters R.spec) S.rules) e
    (subst (λ (Ps : List Parts). RefusesCharacters plain (flat_map mentioned_by Ps) e) (sym ps)
    (subst (λ (ms : List ℕ). RefusesCharacters ms (flat_map mentioned_by c.args.profiles.now) e) c.in_ok-alphabet.ensures.ok c.in_err-mention_each.ensures.err)))

pub returns-in_err-mention_each-2-clause-err : goal.returns-in_err-mention_each-2-clause-err
returns-in_err-mention_each-2-clause-err c = λ S ps rs.
    let p = err_from_is_err_and c.from_residual-in_err-mention_each-2.result c.from_residual-in_err-mention_each-2.ensures.1 in
    let e = c.in_err-mention_each-2.field-0.0 in
    let now = c.mention_each.new.alphabet in
    let first : now ≡ with_characters plain (flat_map mentioned_by S.profiles) = c.in_ok-mention_each.ensures.ok ∙ (λ i. with_characters (c.in_ok-alphabet.ensures.ok i) (flat_map mentioned_by (sym ps i))) in
    rw (p.1, p.2)
    (refused-after plain now (flat_map mentioned_by S.profiles) (flat_map (λ (R : Rule). spec_characters R.spec) S.rules) e first
    (subst (λ (Rs : List Rule). RefusesCharacters now (flat_map (λ (R : Rule). spec_characters R.spec) Rs) e) (sym rs) c.in_err-mention_each-2.ensures.err))

pub returns-clause-value : goal.returns-clause-value
returns-clause-value c = λ S ps rs.
    let now = c.mention_each.new.alphabet in
    let first : now ≡ with_characters plain (flat_map mentioned_by S.profiles) = c.in_ok-mention_each.ensures.ok ∙ (λ i. with_characters (c.in_ok-alphabet.ensures.ok i) (flat_map mentioned_by (sym ps i))) in
    let second : c.mention_each-2.new.alphabet ≡ with_characters now (flat_map (λ (R : Rule). spec_characters R.spec) S.rules) = c.in_ok-mention_each-2.ensures.ok ∙ ap (λ (Rs : List Rule). with_characters now (flat_map (λ (R : Rule). spec_characters R.spec) Rs)) (sym rs) in
    added-after plain now c.mention_each-2.new.alphabet (flat_map mentioned_by S.profiles) (flat_map (λ (R : Rule). spec_characters R.spec) S.rules) first second

pub returns-clause-mentioned : goal.returns-clause-mentioned
returns-clause-mentioned c = λ S ps rs.
    let value : c.mention_each-2.new.alphabet ≡ with_characters plain (mentioned_in S) = returns-clause-value c S ps rs in
    all-mentioned S c.mention_each-2.new.alphabet c.count.ensures.valid
    (ap (λ (ms : List ℕ). mentions ms (mentioned_in S)) value ∙ c.what_is_added_is_mentioned.ensures.added plain (mentioned_in S))
