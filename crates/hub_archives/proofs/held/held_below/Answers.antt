use Rattle.std.proofs.Common.{◌≡◌, ◌∙◌, ◌++◌, ap, subst, sym, false, MatchOption}
use Rattle.hub_path.specs.Path.{is_over}
use Rattle.hub_archives.specs.Seen.{keeps_out_as}
use Rattle.hub_archives.proofs.Keeping.{not_below, same_rest}
use Rattle.hub_archives.proofs.held.held_below.Goals as goal

pub returns-then-branch : goal.returns-then-branch
returns-then-branch c x e =
    let r = c.args.root.now in
    let f = c.args.folder.now in
    let found : f ≡ r ++ c.in-Some.path = subst (λ o. MatchOption o (is_over r f ≡ false) (λ p. f ≡ r ++ p)) c.in-Some.is c.in_ok-path.ensures in
    ap (keeps_out_as c.args.folds c.args.reading.now) (same_rest r x c.in-Some.path f e found)
    ∙ (sym c.in_ok-keeps_out_as-in-Some.ensures ∙ c.if-branch.true)

pub returns-in-None : goal.returns-in-None
returns-in-None c x e =
    let r = c.args.root.now in
    let f = c.args.folder.now in
    let none : is_over r f ≡ false = subst (λ o. MatchOption o (is_over r f ≡ false) (λ p. f ≡ r ++ p)) c.in-None.is c.in_ok-path.ensures in
    absurd (not_below r x f none e)
