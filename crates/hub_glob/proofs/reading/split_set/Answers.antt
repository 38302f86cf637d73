use Rattle.std.proofs.Common.{◌+◌, ◌∷◌, ◌∙◌, sym, ap, take, drop, get_or, Some, None, true, arith}
use Rattle.std.proofs.lemmas.List.{take_more, take_all, drop_more, drop_all}
use Rattle.hub_glob.specs.declared.reading.Token.TheVariants.{Plain}
use Rattle.hub_glob.specs.Reading as reading
use Rattle.hub_glob.proofs.Readings.{rest_all, set_more, set_closed}
use Rattle.hub_glob.proofs.reading.split_set.Goals as goal

pub loop-i-preserved : goal.loop-i-preserved
loop-i-preserved c n =
    let ts = c.args.tokens.now in
    let i = c.loop-i.i in
    let rest = drop (i + 1) ts in
    c.loop-i.invariant n
    ∙ set_more n (take i ts) (get_or ts i (Plain 0)) rest (drop i ts) (sym c.is_plain.ensures ∙ c.if-is_plain.false) (drop_more ts i (Plain 0) (omega arith))
    ∙ ap (λ set. reading.signs n (Some set) rest) (sym (take_more ts i (Plain 0) (omega arith)))

pub returns-then-is_plain-clause-split : goal.returns-then-is_plain-clause-split
returns-then-is_plain-clause-split c n =
    let ts = c.args.tokens.now in
    let i = c.loop-i.i in
    c.loop-i.invariant n
    ∙ set_closed n (take i ts) (get_or ts i (Plain 0)) (drop (i + 1) ts) (drop i ts) (sym c.is_plain.ensures ∙ c.if-is_plain.true) (drop_more ts i (Plain 0) (omega arith))
    ∙ ap (λ rest. reading.set_sign (take i ts) true ∷ reading.signs n None rest) (sym (rest_all (i + 1) ts))

pub returns-clause-split : goal.returns-clause-split
returns-clause-split c n =
    let ts = c.args.tokens.now in
    c.loop-i.invariant n ∙ (λ k. reading.signs n (Some (take_all c.loop-i.i ts (omega arith) k)) (drop_all c.loop-i.i ts (omega arith) k))
