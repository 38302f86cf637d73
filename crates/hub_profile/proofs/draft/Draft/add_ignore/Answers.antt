use Rattle.std.proofs.Common.{chars, sym, ◌∙◌}
use Rattle.hub_profile.proofs.Additions.{ignore_more}
use Rattle.hub_profile.proofs.draft.Draft.add_ignore.Goals as goal

pub returns-clause-ok : goal.returns-clause-ok
returns-clause-ok c =
    ignore_more c.args.self.now _ (chars c.args.value.now) c.in_ok-spec.spec c.push.new.self.items (sym c.self.view_is) (sym c.has_all_patterns.ensures ∙ c.if-has_all_patterns.false)
    c.in_ok-spec.ensures.ok c.in_ok-push.ensures.items
