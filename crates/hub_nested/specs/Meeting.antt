-- Two profiles, or a profile and a rule, at a root of each, as a set in which all paths are counted
-- from the upper of the two roots.
use Rattle.std.specs.Prelude.{not, ◌&&◌, ◌==◌, [], length, drop, Option, Some, None, if◌then◌else◌}
use Rattle.hub_path.specs.Path.{Path, is_over}
use Rattle.hub_path.specs.declared.side.Side.{Side}
use Rattle.hub_profile.specs.Parts.{Parts, at_side}
use Rattle.hub_profile.specs.declared.rule.Rule.{Rule}
use Rattle.hub_unison.specs.ReadingOf.{is_read_back}
use Rattle.hub_nested.specs.Lifted.{can_be_below, can_be_said, lifted_rule, lifted_spec, only_below, paths_below, said_from}
use Rattle.hub_nested.specs.Placed.{asides, placed}
use Rattle.hub_nested.specs.declared.meeting.Meeting.{Meeting}
use Rattle.hub_nested.specs.declared.meeting.Meeting.TheVariants as meets
use Rattle.hub_nested.specs.declared.rule_meeting.RuleMeeting.{RuleMeeting}
use Rattle.hub_nested.specs.declared.rule_meeting.RuleMeeting.TheVariants as meets_rule

-- The names from r down to s, where r is over s.
abbrev pub names_down : Path → Path → Path
names_down r s = drop (length r) s

-- Both at the root r: the first profile lies below it by the names x, and the second by y.
abbrev pub both_at : Path → Parts → Side → Path → Parts → Side → Path → Meeting
both_at r P a x Q b y =
    if can_be_said x P && can_be_said y Q
    then meets.Counted (record {
      first = placed a r (asides r).0 (said_from x P);
      second = placed b r (asides r).1 (said_from y Q);
      first_names = length x;
      second_names = length y;
    })
    else meets.Unsaid

-- P at its root r, and Q at its root s: counted from the upper of the two.
abbrev pub meeting_at : Parts → Side → Path → Parts → Side → Path → Meeting
meeting_at P a r Q b s =
    if is_over r s then both_at r P a [] Q b (names_down r s)
    else (if is_over s r then both_at s P a (names_down s r) Q b [] else meets.Apart)

abbrev pub meeting_of : Parts → Side → Option Path → Parts → Side → Option Path → Meeting
meeting_of P a (Some r) Q b (Some s) = meeting_at P a r Q b s
meeting_of P a (Some r) Q b None = meets.Apart
meeting_of P a None Q b s = meets.Apart

-- Two profiles at those sides of theirs.
abbrev pub meeting : Parts → Side → Parts → Side → Meeting
meeting P a Q b = meeting_of P a (at_side P.roots a) Q b (at_side Q.roots b)

-- A profile at a root that is the rule's, or below it by the names x: from the rule's root. With the
-- top of the file system no other root could go.
abbrev pub under_rule : Parts → Side → Path → Rule → RuleMeeting
under_rule P a x R =
    if can_be_said x P && is_read_back R.spec && not (length R.root == 0)
    then meets_rule.Counted (record {
      profile = placed a R.root (asides R.root).0 (said_from x P);
      rule = R;
      names = 0;
    })
    else meets_rule.Unsaid

-- A profile at a root r that lies above the rule's, by the names x: of the profile that counts which is
-- below the rule's root.
abbrev pub over_rule : Parts → Side → Path → Path → Rule → RuleMeeting
over_rule P a r x R =
    if length (paths_below x P.paths) == 0 then meets_rule.Apart
    else (if can_be_below x P && is_read_back (lifted_spec x R.spec)
    then meets_rule.Counted (record {
      profile = placed a r (asides r).0 (only_below x P);
      rule = lifted_rule r x R;
      names = length x;
    })
    else meets_rule.Unsaid)

abbrev pub rule_meeting_at : Parts → Side → Path → Rule → RuleMeeting
rule_meeting_at P a r R =
    if is_over R.root r then under_rule P a (names_down R.root r) R
    else (if is_over r R.root then over_rule P a r (names_down r R.root) R else meets_rule.Apart)

abbrev pub rule_meeting_of : Parts → Side → Option Path → Rule → RuleMeeting
rule_meeting_of P a (Some r) R = rule_meeting_at P a r R
rule_meeting_of P a None R = meets_rule.Apart

-- A profile at that side of its, and a rule.
abbrev pub rule_meeting : Parts → Side → Rule → RuleMeeting
rule_meeting P a R = rule_meeting_of P a (at_side P.roots a) R
