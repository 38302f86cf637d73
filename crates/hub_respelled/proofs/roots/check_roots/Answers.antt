use Rattle.std.proofs.Common.{◌≡◌, ◌∙◌, List, arith, subst, sym}
use Rattle.hub_path.specs.Path.{Path}
use Rattle.hub_folded.specs.Roots.{AreToldApart, IsSpelledTwice}
use Rattle.hub_folded.specs.Table.{unicode}
use Rattle.hub_respelled.specs.Respelled.{said_roots}
use Rattle.hub_respelled.proofs.SaidRoots.{shown-twice, within}
use Rattle.hub_respelled.proofs.roots.check_roots.Goals as goal

pub returns-in-Some-clause-err : goal.returns-in-Some-clause-err
returns-in-Some-clause-err c =
    let own = c.args.own.now in
    let twice : IsSpelledTwice unicode c.as_slice-all.result.now c.in-Some.first c.in-Some.second =
    rw c.in-Some.is at c.in_ok-first.ensures in
    let same : c.as_slice-all.result.now ≡ said_roots own =
    c.as_slice-all.ensures.value ∙ c.in_ok-roots.ensures.roots (record { profiles = own.profiles; rules = own.rules })
    (sym c.as_slice.ensures) (sym c.as_slice-2.ensures.value) in
    shown-twice own c.as_slice-all.result.now c.in-Some.first c.in-Some.second c.index-all-first.result c.index-all-second.result
    c.in_ok-copy.field-0 c.in_ok-copy-2.field-0 same twice c.index-all-first.is c.index-all-second.is
    c.in_ok-copy.ensures c.in_ok-copy-2.ensures

pub returns-clause-ok : goal.returns-clause-ok
returns-clause-ok c =
    let own = c.args.own.now in
    let told : AreToldApart unicode c.as_slice-all.result.now = rw c.in_default.is at c.in_ok-first.ensures in
    let same : c.as_slice-all.result.now ≡ said_roots own =
    c.as_slice-all.ensures.value ∙ c.in_ok-roots.ensures.roots (record { profiles = own.profiles; rules = own.rules })
    (sym c.as_slice.ensures) (sym c.as_slice-2.ensures.value) in
    subst (λ (rs : List Path). AreToldApart unicode rs) same told

pub bounds-all-first : goal.bounds-all-first
bounds-all-first c =
    let twice : IsSpelledTwice unicode c.as_slice-all.result.now c.in-Some.first c.in-Some.second =
    rw c.in-Some.is at c.in_ok-first.ensures in
    (within c.as_slice-all.result.now c.in-Some.first c.in-Some.second twice).0

pub offset_bounds-all-first : goal.offset_bounds-all-first
offset_bounds-all-first c =
    let twice : IsSpelledTwice unicode c.as_slice-all.result.now c.in-Some.first c.in-Some.second =
    rw c.in-Some.is at c.in_ok-first.ensures in
    omega (arith, (within c.as_slice-all.result.now c.in-Some.first c.in-Some.second twice).0)

pub bounds-all-second : goal.bounds-all-second
bounds-all-second c =
    let twice : IsSpelledTwice unicode c.as_slice-all.result.now c.in-Some.first c.in-Some.second =
    rw c.in-Some.is at c.in_ok-first.ensures in
    (within c.as_slice-all.result.now c.in-Some.first c.in-Some.second twice).1

pub offset_bounds-all-second : goal.offset_bounds-all-second
offset_bounds-all-second c =
    let twice : IsSpelledTwice unicode c.as_slice-all.result.now c.in-Some.first c.in-Some.second =
    rw c.in-Some.is at c.in_ok-first.ensures in
    omega (arith, (within c.as_slice-all.result.now c.in-Some.first c.in-Some.second twice).1)
