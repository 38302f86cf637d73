use Rattle.std.proofs.Common.{◌≡◌, ◌∙◌, sym, true}
use Rattle.hub_path.specs.Path.{is_path}
use Rattle.hub_nested.specs.Lifted.{said_from}
use Rattle.hub_nested.specs.Placed.{placed}
use Rattle.hub_nested.proofs.Meetings.{counted-both, meets-upper, one-roots, two-roots, unsaid-first, unsaid-second, upper-path}
use Rattle.hub_nested.proofs.SaidParts.{none-if}
use Rattle.hub_nested.proofs.Writing.{root-path}
use Rattle.hub_nested.proofs.meeting.meet.Goals as goal

pub placed_from-requires : goal.placed_from-requires
placed_from-requires c =
    let r = c.root-own.result.now in
    let s = c.root-other.result.now in
    let u = c.in-Some.root in
    let path : is_path u ≡ true =
    upper-path r s u c.in_ok-root.field-0 c.in-Some.is c.in_ok-root.ensures
    (root-path c.args.at c.args.first.now.roots r c.root-own.ensures.valid.roots c.root-own.ensures.value)
    (root-path c.args.other_at c.args.second.now.roots s c.root-other.ensures.valid.roots c.root-other.ensures.value) in
    record { roots = one-roots c.args.at u c.in_ok-aside.aside c.in_ok-aside.other_aside path c.in_ok-aside.ensures }

pub placed_from-requires-2 : goal.placed_from-requires-2
placed_from-requires-2 c =
    let r = c.root-own.result.now in
    let s = c.root-other.result.now in
    let u = c.in-Some.root in
    let path : is_path u ≡ true =
    upper-path r s u c.in_ok-root.field-0 c.in-Some.is c.in_ok-root.ensures
    (root-path c.args.at c.args.first.now.roots r c.root-own.ensures.valid.roots c.root-own.ensures.value)
    (root-path c.args.other_at c.args.second.now.roots s c.root-other.ensures.valid.roots c.root-other.ensures.value) in
    record { roots = two-roots c.args.other_at u c.in_ok-aside.aside c.in_ok-aside.other_aside path c.in_ok-aside.ensures }

pub returns-in_default-2 : goal.returns-in_default-2
returns-in_default-2 c =
    let P = c.args.first.now in
    let Q = c.args.second.now in
    let u = c.in-Some.root in
    let x = c.in_ok-names.names in
    let y = c.in_ok-other_names.other_names in
    unsaid-first u P Q c.args.at c.args.other_at x y
    (none-if _ (placed c.args.at u c.in_ok-aside.aside (said_from x P)) c.in_ok-one.field-0 c.in_default-2.is c.in_ok-one.ensures)
    ∙ sym (meets-upper P Q c.args.at c.args.other_at c.root-own.result.now c.root-other.result.now u x y c.in_ok-root.field-0
    c.root-own.ensures.value c.root-other.ensures.value c.in-Some.is c.in_ok-root.ensures c.in_ok-names.ensures
    c.in_ok-other_names.ensures)

pub returns-in_default-3 : goal.returns-in_default-3
returns-in_default-3 c =
    let P = c.args.first.now in
    let Q = c.args.second.now in
    let u = c.in-Some.root in
    let x = c.in_ok-names.names in
    let y = c.in_ok-other_names.other_names in
    unsaid-second u P Q c.args.at c.args.other_at x y
    (none-if _ (placed c.args.other_at u c.in_ok-aside.other_aside (said_from y Q)) c.in_ok-two.field-0 c.in_default-3.is
    c.in_ok-two.ensures)
    ∙ sym (meets-upper P Q c.args.at c.args.other_at c.root-own.result.now c.root-other.result.now u x y c.in_ok-root.field-0
    c.root-own.ensures.value c.root-other.ensures.value c.in-Some.is c.in_ok-root.ensures c.in_ok-names.ensures
    c.in_ok-other_names.ensures)

pub returns : goal.returns
returns c =
    let P = c.args.first.now in
    let Q = c.args.second.now in
    let u = c.in-Some.root in
    let x = c.in_ok-names.names in
    let y = c.in_ok-other_names.other_names in
    counted-both u P Q c.args.at c.args.other_at x y c.in_ok-aside.aside c.in_ok-aside.other_aside c.in-Some-2.one c.in-Some-3.two
    c.in_ok-one.field-0 c.in_ok-two.field-0 c.len.result c.len-2.result c.in_ok-aside.ensures c.in-Some-2.is c.in_ok-one.ensures
    c.in-Some-3.is c.in_ok-two.ensures c.len.ensures.len c.len-2.ensures.len
    ∙ sym (meets-upper P Q c.args.at c.args.other_at c.root-own.result.now c.root-other.result.now u x y c.in_ok-root.field-0
    c.root-own.ensures.value c.root-other.ensures.value c.in-Some.is c.in_ok-root.ensures c.in_ok-names.ensures
    c.in_ok-other_names.ensures)
