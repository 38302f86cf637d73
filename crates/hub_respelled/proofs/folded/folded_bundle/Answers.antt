use Rattle.std.proofs.Common.{◌≡◌, ◌∙◌, true, length, map, ap, subst, sym, MatchOption}
use Rattle.hub_archives.specs.Folded.{FoldedKeptOut, IsFoldedHeld}
use Rattle.hub_folded.specs.Lines.{folded_member, folded_rules, folded_set, know_rules, some_fold}
use Rattle.hub_folded.specs.Table.{unicode}
use Rattle.hub_import.specs.Imported.{contents_of}
use Rattle.hub_respelled.specs.Members.{members_of}
use Rattle.hub_respelled.specs.Respelled.{AreFoldsOf, folded_contents, said_members}
use Rattle.hub_respelled.proofs.Said.{err-so, folded-each, folded-so, folds-said, refused-so, said-by}
use Rattle.hub_respelled.proofs.folded.folded_bundle.Goals as goal

pub returns-in_err-rules-clause-err : goal.returns-in_err-rules-clause-err
returns-in_err-rules-clause-err c =
    let bundle = c.args.bundle.now in
    let folds = c.in_ok-folds.folds.items in
    let is = subst (λ n. AreFoldsOf bundle n folds) c.len.ensures c.in_ok-folds.ensures.ok in
    let said = said-by bundle c.args.own folds c.requires.said is in
    let so = refused-so bundle said c.as_slice-3.result.now c.in_err-rules.field-0.0 c.in_err-rules.ensures.err in
    err-so bundle c.from_residual-in_err-rules.result c.in_err-rules.field-0.0 c.from_residual-in_err-rules.ensures.1 so

pub returns-in-None-clause-ok : goal.returns-in-None-clause-ok
returns-in-None-clause-ok c =
    let bundle = c.args.bundle.now in
    let own = c.args.own in
    let folds = c.in_ok-folds.folds.items in
    let is = subst (λ n. AreFoldsOf bundle n folds) c.len.ensures c.in_ok-folds.ensures.ok in
    let said = said-by bundle own folds c.requires.said is in
    let members : c.in_ok-members.members ≡ said_members said = c.in_ok-members.ensures ∙ (ap (λ fs. members_of fs own.profiles) c.as_slice.ensures.value ∙ folds-said bundle own folds c.requires.said is) in
    let some : some_fold (said_members said) ≡ true = search in
    let set : c.in_ok-profiles.profiles ≡ folded_set unicode (said_members said) = c.in_ok-profiles.ensures ∙ ap (folded_set unicode) members in
    let same : c.as_slice-7.result.now ≡ map (λ M. M.folds) (said_members said) = c.as_slice-7.ensures.value ∙ (c.in_ok-folds-2.ensures ∙ ap (map (λ M. M.folds)) (c.as_slice-4.ensures ∙ members)) in
    let each : c.in_ok-profiles.profiles ≡ map (folded_member unicode) (said_members said) = set ∙ folded-each (said_members said) some in
    let folders = c.args.folders.now in
    let found = c.in_ok-find_folded_archives.ensures (said_members said) same each in
    let known : know_rules unicode own.rules ≡ true = c.in_ok-rules.ensures.known (ap some_fold (c.as_slice-3.ensures ∙ members) ∙ some) in
    let profiles : c.as_slice-5.result.now ≡ folded_set unicode (said_members said) = c.as_slice-5.ensures ∙ set in
    let rules : c.as_slice-6.result.now ≡ folded_rules unicode (said_members said) own.rules = c.as_slice-6.ensures.value ∙ (c.in_ok-rules.ensures.ok ∙ ap (λ Ms. folded_rules unicode Ms own.rules) (c.as_slice-3.ensures ∙ members)) in
    let whole = folded-so bundle c.in_ok-text.text.items said (contents_of c.as_slice-5.result.now c.as_slice-6.result.now) some known c.requires.told (λ i. contents_of (profiles i) (rules i)) c.in_ok-text.ensures.ok in
    (whole, subst (λ o. MatchOption o (FoldedKeptOut folders (said_members said)) (IsFoldedHeld folders (said_members said))) c.in-None.is found)

pub returns-clause-ok : goal.returns-clause-ok
returns-clause-ok c =
    let bundle = c.args.bundle.now in
    let own = c.args.own in
    let folds = c.in_ok-folds.folds.items in
    let is = subst (λ n. AreFoldsOf bundle n folds) c.len.ensures c.in_ok-folds.ensures.ok in
    let said = said-by bundle own folds c.requires.said is in
    let members : c.in_ok-members.members ≡ said_members said = c.in_ok-members.ensures ∙ (ap (λ fs. members_of fs own.profiles) c.as_slice.ensures.value ∙ folds-said bundle own folds c.requires.said is) in
    let some : some_fold (said_members said) ≡ true = search in
    let set : c.in_ok-profiles.profiles ≡ folded_set unicode (said_members said) = c.in_ok-profiles.ensures ∙ ap (folded_set unicode) members in
    let same : c.as_slice-7.result.now ≡ map (λ M. M.folds) (said_members said) = c.as_slice-7.ensures.value ∙ (c.in_ok-folds-2.ensures ∙ ap (map (λ M. M.folds)) (c.as_slice-4.ensures ∙ members)) in
    let each : c.in_ok-profiles.profiles ≡ map (folded_member unicode) (said_members said) = set ∙ folded-each (said_members said) some in
    let folders = c.args.folders.now in
    let found = c.in_ok-find_folded_archives.ensures (said_members said) same each in
    (said, subst (λ o. MatchOption o (FoldedKeptOut folders (said_members said)) (IsFoldedHeld folders (said_members said))) c.in-Some.is found)
