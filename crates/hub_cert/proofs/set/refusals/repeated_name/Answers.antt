use Rattle.std.proofs.Common.{refl, arith}
use Rattle.std.specs.BTreeSet.{contains}
use Rattle.std.proofs.lemmas.Option.{slice_get_read}
use denote.Ref.{Bor}
use Rattle.hub_path.specs.Path.{Name, name_cmp}
use Rattle.hub_cert.proofs.Namesakes.{all-named, names-more, namesake, none-more}
use Rattle.hub_cert.proofs.Seen.{was-new, was-there}
use Rattle.hub_cert.proofs.set.refusals.repeated_name.Goals as goal

pub returns-then-not-branch : goal.returns-then-not-branch
returns-then-not-branch c =
    let Ps = c.args.profiles.now in
    let n = c.loop-later.later in
    let P = c.index-profiles-later.result in
    let at = slice_get_read Ps _ n P refl c.loop-later-test.true c.index-profiles-later.is in
    let own = c.name.result in
    let has = contains (λ (x y : Bor Name). name_cmp x.now y.now) c.loop-later.names in
    (namesake Ps n P own has at c.name.ensures c.loop-later.invariant.0 (was-there c.in_ok-insert.field-0 (has own) c.in_ok-insert.ensures.added c.if-not-branch.true), c.loop-later.invariant.1)

pub loop-later-preserved : goal.loop-later-preserved
loop-later-preserved c =
    let Ps = c.args.profiles.now in
    let n = c.loop-later.later in
    let P = c.index-profiles-later.result in
    let at = slice_get_read Ps _ n P refl c.loop-later-test.true c.index-profiles-later.is in
    let own = c.name.result in
    let has = contains (λ (x y : Bor Name). name_cmp x.now y.now) c.loop-later.names in
    let new = contains (λ (x y : Bor Name). name_cmp x.now y.now) c.insert.new.self in (
      names-more Ps n P own has at c.name.ensures c.loop-later.invariant.0 new c.in_ok-insert.ensures.updates.0,
      none-more Ps n P own has at c.name.ensures c.loop-later.invariant.0 (was-new c.in_ok-insert.field-0 (has own) c.in_ok-insert.ensures.added c.if-not-branch.false) c.loop-later.invariant.1,
    )

pub returns : goal.returns
returns c = all-named c.args.profiles.now c.loop-later.later (omega (arith, c.loop-later-test.false)) c.loop-later.invariant.1
