use Rattle.std.proofs.Common.{◌≡◌, sym, subst, true}
use Rattle.hub_profile.specs.Facts.{are_roots}
use Rattle.hub_nested.specs.Placed.{two_roots}
use Rattle.hub_nested.proofs.Meetings.{one-roots}
use Rattle.hub_nested.proofs.rule_meeting.at_root.Goals as goal

pub placed-requires : goal.placed-requires
placed-requires c = record {
  roots = subst (λ r. are_roots (two_roots c.args.at r c.in_ok-aside.aside) ≡ true) (sym c.in_ok-copy.ensures)
      (one-roots c.args.at c.args.root.now c.in_ok-aside.aside c.in_ok-aside.field-0-1 c.requires.path c.in_ok-aside.ensures);
}
