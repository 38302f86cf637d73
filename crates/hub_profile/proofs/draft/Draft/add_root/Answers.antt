use Rattle.std.proofs.Common.{chars, sym}
use Rattle.hub_profile.proofs.Additions.{root_more}
use Rattle.hub_profile.proofs.draft.Draft.add_root.Goals as goal

pub returns-clause-ok : goal.returns-clause-ok
returns-clause-ok c =
    root_more c.args.self.now _ (chars c.args.value.now) c.in_ok-root.root c.push.new.self.items (sym c.self.view_is) c.in_ok-root.ensures.ok c.in_ok-push.ensures.items
