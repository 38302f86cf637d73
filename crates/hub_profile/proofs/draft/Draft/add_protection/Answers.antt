use Rattle.std.proofs.Common.{chars, sym, ap, ◌∙◌}
use Rattle.hub_profile.proofs.Additions.{protection_more}
use Rattle.hub_profile.specs.Protection.{repeats}
use Rattle.hub_profile.proofs.draft.Draft.add_protection.Goals as goal

pub returns-clause-ok : goal.returns-clause-ok
returns-clause-ok c =
    protection_more c.args.kind c.args.self.now _ c.args.number (chars c.args.value.now) c.in_ok-root.root c.push.new.self.items (sym c.self.view_is)
    (ap (repeats c.args.kind) (sym c.as_slice.ensures.value) ∙ sym c.repeats.ensures ∙ c.if-repeats.false) (sym c.is_left_out.ensures ∙ c.if-is_left_out.false)
    c.in_ok-root.ensures.ok c.in_ok-push.ensures.items
