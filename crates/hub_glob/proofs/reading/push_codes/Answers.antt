use Rattle.std.proofs.Common.{◌≡◌, ◌+◌, ◌-◌, ◌++◌, ◌∷◌, [], suc, ap, sym, ◌∙◌, append_assoc, arith, rules}
use Rattle.std.specs.List.{range_with_len}
use Rattle.hub_text.specs.laws.List.{range-push}
use Rattle.hub_glob.proofs.reading.push_codes.Goals as goal

pub loop-code-preserved : goal.loop-code-preserved
loop-code-preserved c =
    let low = c.args.low in
    let n = c.loop-code.code - low in
    let at : low + n ≡ c.loop-code.code = omega arith in
    let code : c.from.result ≡ c.loop-code.code = search rules in
    let count : c.loop-code.code + 1 - low ≡ suc n = omega arith in
    let more : range_with_len low n ++ c.from.result ∷ [] ≡ range_with_len low (c.loop-code.code + 1 - low) =
    ap (λ x. range_with_len low n ++ x ∷ []) (code ∙ sym at) ∙ sym (range-push low n) ∙ ap (range_with_len low) (sym count) in
    c.in_ok-push.ensures.items ∙ (λ i. c.loop-code.invariant i ++ c.from.result ∷ [])
    ∙ append_assoc c.args.set.now.items (range_with_len low n) (c.from.result ∷ []) ∙ ap (λ xs. c.args.set.now.items ++ xs) more
