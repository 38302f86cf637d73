use Rattle.std.proofs.Common.{◌∙◌, arith}
use Rattle.hub_cert.specs.Refused.{AreFirstNested, NoneNested}
use Rattle.hub_cert.specs.Set.{roots_in}
use Rattle.hub_cert.proofs.SetFacts.{are-apart, nested-within, shown-nested}
use Rattle.hub_cert.proofs.set.refusals.check_roots.Goals as goal

pub returns-in-Some-clause-err : goal.returns-in-Some-clause-err
returns-in-Some-clause-err c = λ S ps rs named.
    let e : AreFirstNested c.as_slice-all.result.now c.in-Some.first c.in-Some.second = rw c.in-Some.is at c.in_ok-first.ensures in (
      named,
      shown-nested c.as_slice-all.result.now (roots_in S) c.in-Some.first c.in-Some.second c.index-all-first.result c.index-all-second.result c.in_ok-copy.field-0 c.in_ok-copy-2.field-0
          (c.as_slice-all.ensures.value ∙ c.in_ok-roots.ensures.roots S ps rs) e c.index-all-first.is c.index-all-second.is c.in_ok-copy.ensures c.in_ok-copy-2.ensures,
    )

pub returns-clause-apart : goal.returns-clause-apart
returns-clause-apart c = λ S ps rs.
    let none : NoneNested c.as_slice-all.result.now = rw c.in_default.is at c.in_ok-first.ensures in
    are-apart S c.as_slice-all.result.now (c.as_slice-all.ensures.value ∙ c.in_ok-roots.ensures.roots S ps rs) none

pub bounds-all-first : goal.bounds-all-first
bounds-all-first c =
    let e : AreFirstNested c.as_slice-all.result.now c.in-Some.first c.in-Some.second = rw c.in-Some.is at c.in_ok-first.ensures in
    (nested-within c.as_slice-all.result.now c.in-Some.first c.in-Some.second e).0

pub offset_bounds-all-first : goal.offset_bounds-all-first
offset_bounds-all-first c =
    let e : AreFirstNested c.as_slice-all.result.now c.in-Some.first c.in-Some.second = rw c.in-Some.is at c.in_ok-first.ensures in
    omega (arith, (nested-within c.as_slice-all.result.now c.in-Some.first c.in-Some.second e).0)

pub bounds-all-second : goal.bounds-all-second
bounds-all-second c =
    let e : AreFirstNested c.as_slice-all.result.now c.in-Some.first c.in-Some.second = rw c.in-Some.is at c.in_ok-first.ensures in
    (nested-within c.as_slice-all.result.now c.in-Some.first c.in-Some.second e).1

pub offset_bounds-all-second : goal.offset_bounds-all-second
offset_bounds-all-second c =
    let e : AreFirstNested c.as_slice-all.result.now c.in-Some.first c.in-Some.second = rw c.in-Some.is at c.in_ok-first.ensures in
    omega (arith, (nested-within c.as_slice-all.result.now c.in-Some.first c.in-Some.second e).1)
