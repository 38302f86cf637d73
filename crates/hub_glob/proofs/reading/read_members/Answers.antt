use Rattle.std.proofs.Common.{◌≡◌, ◌+◌, ◌<◌, ⊎_elim, inl, inr, length, get_or, false, arith, sym, ◌∙◌}
use Rattle.std.proofs.lemmas.Result.{err_from_is_err_and}
use Rattle.hub_glob.specs.declared.reading.Token.TheVariants.{Plain}
use Rattle.hub_glob.specs.Reading as reading
use Rattle.hub_glob.proofs.Readings.{range_step, range_failed, one_step, one_failed, none_read, all_read}
use Rattle.hub_glob.proofs.reading.read_members.Goals.{else-i-set-via-then-i-set+else-is_plain, else-i-set-via-else-i-set}
use Rattle.hub_glob.proofs.reading.read_members.Goals as goal

pub loop-i-preserved-then-is_plain : goal.loop-i-preserved-then-is_plain
loop-i-preserved-then-is_plain c = (
  omega arith,
  range_step c.args.set.now c.loop-i.i c.loop-i.members.items c.push_range.new.set.items (Plain 0) c.if-i-set.true (sym c.is_plain.ensures ∙ c.if-is_plain.true)
      c.in_ok-push_range.ensures.ok c.loop-i.invariant.1,
)

pub returns-in_err-push_one-clause-err : goal.returns-in_err-push_one-clause-err
returns-in_err-push_one-clause-err c =
    let p = err_from_is_err_and c.from_residual-in_err-push_one.result c.from_residual-in_err-push_one.ensures.1 in
    let dash : c.loop-i.i + 2 < length c.args.set.now → reading.is_plain 45 (get_or c.args.set.now (c.loop-i.i + 1) (Plain 0)) ≡ false =
    elim c.else-i-set.branch [ else-i-set-via-then-i-set+else-is_plain w ↦ λ _. sym w.is_plain.ensures ∙ w.if-is_plain.false | else-i-set-via-else-i-set w ↦ λ l. absurd (omega arith) ] in
    rw (p.1, p.2)
    (⊎_elim (λ m. inl m) (λ f. inr (one_failed c.args.set.now c.loop-i.i c.loop-i.members.items (Plain 0) c.in_err-push_one.field-0.0 c.loop-i-test.true dash f c.loop-i.invariant.1))
    c.in_err-push_one.ensures.err)

pub loop-i-preserved : goal.loop-i-preserved
loop-i-preserved c =
    let dash : c.loop-i.i + 2 < length c.args.set.now → reading.is_plain 45 (get_or c.args.set.now (c.loop-i.i + 1) (Plain 0)) ≡ false =
    elim c.else-i-set.branch [ else-i-set-via-then-i-set+else-is_plain w ↦ λ _. sym w.is_plain.ensures ∙ w.if-is_plain.false | else-i-set-via-else-i-set w ↦ λ l. absurd (omega arith) ] in (
      omega arith,
      one_step c.args.set.now c.loop-i.i c.loop-i.members.items c.push_one.new.set.items (Plain 0) c.loop-i-test.true dash c.in_ok-push_one.ensures.ok c.loop-i.invariant.1,
    )

pub returns-in_err-push_range-clause-err : goal.returns-in_err-push_range-clause-err
returns-in_err-push_range-clause-err c =
    let p = err_from_is_err_and c.from_residual.result c.from_residual.ensures.1 in
    rw (p.1, p.2)
    (⊎_elim (λ m. inl m) (λ f. inr (range_failed c.args.set.now c.loop-i.i c.loop-i.members.items (Plain 0) c.in_err-push_range.field-0.0 c.if-i-set.true (sym c.is_plain.ensures ∙ c.if-is_plain.true) f c.loop-i.invariant.1))
    c.in_err-push_range.ensures.err)

pub loop-i-init : goal.loop-i-init
loop-i-init c = (omega arith, none_read (reading.set_members c.args.set.now) c.new-members.result.items c.new-members.ensures.items)

pub returns-clause-ok : goal.returns-clause-ok
returns-clause-ok c = all_read c.args.set.now c.loop-i.i c.loop-i.members.items c.loop-i-test.false c.loop-i.invariant.1
