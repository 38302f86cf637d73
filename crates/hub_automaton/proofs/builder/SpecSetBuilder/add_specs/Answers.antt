use Rattle.std.proofs.Common.{◌≡◌, ◌+◌, ◌∷◌, ◌++◌, map, drop, sym, ap, ◌∙◌, arith}
use Rattle.std.proofs.lemmas.Result.{err_from_is_err_and}
use Rattle.hub_text.specs.laws.List.{next-drop}
use Rattle.hub_automaton.specs.declared.alternatives.Alternatives.{Alternatives}
use Rattle.hub_automaton.specs.Spots.{alternatives_of}
use Rattle.hub_automaton.proofs.Paths.{refused_more}
use Rattle.hub_automaton.proofs.builder.SpecSetBuilder.add_specs.Goals as goal

pub returns-in_err-add-clause-err : goal.returns-in_err-add-clause-err
returns-in_err-add-clause-err c =
    let p = err_from_is_err_and c.from_residual-in_err-add.result c.from_residual-in_err-add.ensures.1 in
    let specs = c.args.specs.now in
    let i = c.loop-spec.spec-index in
    let s = c.spec-item.result in
    let rest = map alternatives_of (drop (i + 1) specs) in
    let one : Alternatives = record { kind = c.kind.result; choices = c.in_ok-choices.field-0 } in
    let is_one : one ≡ alternatives_of s = λ j. let r : Alternatives = record { kind = c.kind.ensures j; choices = c.in_ok-choices.ensures j } in r in
    let at : map alternatives_of (drop i specs) ≡ alternatives_of s ∷ rest = ap (map alternatives_of) (next-drop specs i s (omega arith) c.spec-item.is) in
    let whole : c.loop-spec.self ++ one ∷ rest ≡ c.args.self.now ++ map alternatives_of specs =
    (λ j. c.loop-spec.self ++ is_one j ∷ rest) ∙ ap (λ ls. c.loop-spec.self ++ ls) (sym at) ∙ c.loop-spec.invariant in
    rw (p.1, p.2) (refused_more c.loop-spec.self rest (c.args.self.now ++ map alternatives_of specs) one c.in_err-add.field-0.0 whole c.in_err-add.ensures.err)
