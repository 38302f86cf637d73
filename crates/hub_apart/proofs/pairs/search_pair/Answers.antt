use Rattle.std.proofs.Common.{◌≡◌, ◌+◌, arith, length}
use Rattle.hub_text.specs.laws.Fails.{passed-up}
use Rattle.hub_apart.specs.UnisonLines.{IsRefusedPair}
use Rattle.hub_apart.proofs.LinesOfPairs.{added-pair, refused-pair}
use Rattle.hub_apart.proofs.Taken.{both-back, first-at, later-at, room}
use Rattle.hub_apart.proofs.pairs.search_pair.Goals as goal

pub returns-in_err-first-clause-refused : goal.returns-in_err-first-clause-refused
returns-in_err-first-clause-refused c =
    let all = c.args.profiles.items in
    let fewer = c.swap_remove-second.new.self.items in
    let least = c.swap_remove-first.new.self.items in
    let i = c.args.pair.0 in
    let j = c.args.pair.1 in
    let x = c.swap_remove-first.result in
    let y = c.swap_remove-second.result in
    let later = c.swap_remove-second.ensures in
    let first = c.swap_remove-first.ensures in
    let kept = later.by_index.1 i x (λ same. omega (arith, same, c.requires.0)) (omega (arith, c.requires.0, c.requires.1, c.args.profiles.ok.0)) in
    let long : length fewer + 1 ≡ length all = omega (arith, later.len, c.args.profiles.ok.0, c.swap_remove-second.new.self.ok.0) in
    let e = c.in_err-first.field-0.0 in
    passed-up c.from_residual.result e (IsRefusedPair all) c.from_residual.ensures.1
    (refused-pair all i j x y e c.requires.0
    (first-at all fewer least i j x y c.requires.0 c.requires.1 later.value later.items kept long first.value first.items)
    (later-at all fewer least i j x y c.requires.0 c.requires.1 later.value later.items kept long first.value first.items)
    c.in_err-first.ensures.refused)

pub put_back-requires-2 : goal.put_back-requires-2
put_back-requires-2 c =
    let all = c.args.profiles.items in
    let fewer = c.swap_remove-second.new.self.items in
    let least = c.swap_remove-first.new.self.items in
    let i = c.args.pair.0 in
    let j = c.args.pair.1 in
    let x = c.swap_remove-first.result in
    let y = c.swap_remove-second.result in
    let later = c.swap_remove-second.ensures in
    let first = c.swap_remove-first.ensures in
    let kept = later.by_index.1 i x (λ same. omega (arith, same, c.requires.0)) (omega (arith, c.requires.0, c.requires.1, c.args.profiles.ok.0)) in
    let long : length fewer + 1 ≡ length all = omega (arith, later.len, c.args.profiles.ok.0, c.swap_remove-second.new.self.ok.0) in
    room all fewer least i j x y c.requires.0 c.requires.1 later.value later.items kept long first.value first.items
    c.put_back.new.profiles.items c.in_ok-first.first c.in_ok-first.ensures.first c.in_ok-put_back.ensures

pub returns-clause-profiles : goal.returns-clause-profiles
returns-clause-profiles c =
    let all = c.args.profiles.items in
    let fewer = c.swap_remove-second.new.self.items in
    let least = c.swap_remove-first.new.self.items in
    let i = c.args.pair.0 in
    let j = c.args.pair.1 in
    let x = c.swap_remove-first.result in
    let y = c.swap_remove-second.result in
    let later = c.swap_remove-second.ensures in
    let first = c.swap_remove-first.ensures in
    let kept = later.by_index.1 i x (λ same. omega (arith, same, c.requires.0)) (omega (arith, c.requires.0, c.requires.1, c.args.profiles.ok.0)) in
    let long : length fewer + 1 ≡ length all = omega (arith, later.len, c.args.profiles.ok.0, c.swap_remove-second.new.self.ok.0) in
    both-back all fewer least i j x y c.requires.0 c.requires.1 later.value later.items kept long first.value first.items
    c.put_back.new.profiles.items c.in_ok-first.first c.in_ok-first.ensures.first c.in_ok-put_back.ensures
    c.put_back-2.new.profiles.items c.in_ok-first.second c.in_ok-first.ensures.second c.in_ok-put_back-2.ensures

pub returns-clause-lines : goal.returns-clause-lines
returns-clause-lines c =
    let all = c.args.profiles.items in
    let fewer = c.swap_remove-second.new.self.items in
    let least = c.swap_remove-first.new.self.items in
    let i = c.args.pair.0 in
    let j = c.args.pair.1 in
    let x = c.swap_remove-first.result in
    let y = c.swap_remove-second.result in
    let later = c.swap_remove-second.ensures in
    let first = c.swap_remove-first.ensures in
    let kept = later.by_index.1 i x (λ same. omega (arith, same, c.requires.0)) (omega (arith, c.requires.0, c.requires.1, c.args.profiles.ok.0)) in
    let long : length fewer + 1 ≡ length all = omega (arith, later.len, c.args.profiles.ok.0, c.swap_remove-second.new.self.ok.0) in
    added-pair all i j x y c.args.lines.now.items c.search_near.new.lines.items c.requires.0
    (first-at all fewer least i j x y c.requires.0 c.requires.1 later.value later.items kept long first.value first.items)
    (later-at all fewer least i j x y c.requires.0 c.requires.1 later.value later.items kept long first.value first.items)
    c.in_ok-first.ensures.lines
