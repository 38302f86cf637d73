use Rattle.std.proofs.Common.{◌≡◌, ◌∷◌, ◌++◌, ◌∙◌, refl, sym, ap, Ok, None, Some, []}
use Rattle.hub_glob.specs.declared.piece.Piece.{Piece}
use Rattle.hub_glob.specs.declared.piece.Piece.TheVariants.{Lit}
use Rattle.hub_glob.specs.declared.piece.Part.TheVariants.{One, Brace}
use Rattle.hub_glob.specs.declared.reading.Sign.{Sign}
use Rattle.hub_glob.specs.declared.reading.Sign.TheVariants.{Means, Comma, Close}
use Rattle.hub_glob.specs.Reading as reading
use Rattle.hub_glob.proofs.Readings.{no_parts, sign_part, then_parts}
use Rattle.hub_glob.proofs.reading.Parser.parts.Goals.{in-Means, in-Open+in_ok-choices-in-Open, in-Comma, in-Close}
use Rattle.hub_glob.proofs.reading.Parser.parts.Goals as goal

pub signs-preserved : goal.signs-preserved
signs-preserved c =
    let n = c.args.self.now.in_name in
    let mid = c.sign.new.self.tokens.now in
    let whole = reading.parts None (reading.signs n None c.args.self.now.tokens.now) in
    let rest = reading.parts None (reading.signs n None mid) in
    let e : reading.signs c.signs.self.in_name None c.signs.self.tokens.now ≡ Ok c.in-Some.sign ∷ reading.signs c.sign.new.self.in_name None mid = rw c.in-Some.is at c.in_ok-sign.ensures.ok in
    let one : (x : Piece) (s : Sign) → c.match-sign.self ≡ c.sign.new.self → c.match-sign.part ≡ One x → c.in-Some.sign ≡ s
    → reading.parts None (Ok s ∷ reading.signs n None mid) ≡ reading.then_part (One x) rest
    → (c.match-sign.self.in_name ≡ n) × (whole ≡ then_parts c.push.new.self (reading.parts None (reading.signs n None c.match-sign.self.tokens.now))) =
    λ x s self-is part-is sign-is adds. (
      ap (λ v. v.in_name) self-is ∙ c.in_ok-sign.ensures.in_name ∙ c.signs.invariant.0,
      sign_part n c.signs.self.in_name c.sign.new.self.in_name c.signs.self.tokens.now mid c.in-Some.sign whole rest c.signs.parts c.push.new.self (One x)
          c.signs.invariant.0 c.in_ok-sign.ensures.in_name e c.signs.invariant.1 (ap (λ t. reading.parts None (Ok t ∷ reading.signs n None mid)) sign-is ∙ adds)
          (c.in_ok-push.ensures.ok ∙ ap (λ q. c.signs.parts ++ q ∷ []) part-is)
          ∙ ap (λ v. then_parts c.push.new.self (reading.parts None (reading.signs n None v.tokens.now))) (sym self-is),
    ) in
    elim c.match-sign.branch [
      | in-Means w ↦ one w.in-Means.piece (Means w.in-Means.piece) w.self-is w.part-is w.in-Means.is refl
      | in-Open+in_ok-choices-in-Open w ↦
          let end = w.choices.new.self.tokens.now in
          let cs = w.in_ok-choices-in-Open.field-0 in
          let n2 : c.sign.new.self.in_name ≡ n = c.in_ok-sign.ensures.in_name ∙ c.signs.invariant.0 in
          let n3 : w.choices.new.self.in_name ≡ n = w.in_ok-choices-in-Open.ensures.in_name ∙ n2 in
          let s : reading.parts None (Ok c.in-Some.sign ∷ reading.signs n None mid) ≡ reading.then_part (Brace cs) (reading.parts None (reading.signs n None end)) =
          ap (λ s. reading.parts None (Ok s ∷ reading.signs n None mid)) w.in-Open.is
          ∙ (λ i. reading.parts (Some ([], [])) (reading.signs (sym n2 i) None mid)) ∙ w.in_ok-choices-in-Open.ensures.ok
          ∙ (λ i. reading.then_part (Brace cs) (reading.parts None (reading.signs (n3 i) None end))) in (
            ap (λ v. v.in_name) w.self-is ∙ n3,
            sign_part n c.signs.self.in_name c.sign.new.self.in_name c.signs.self.tokens.now mid c.in-Some.sign whole
                (reading.parts None (reading.signs n None end)) c.signs.parts c.push.new.self (Brace cs)
                c.signs.invariant.0 c.in_ok-sign.ensures.in_name e c.signs.invariant.1 s (c.in_ok-push.ensures.ok ∙ ap (λ q. c.signs.parts ++ q ∷ []) w.part-is)
                ∙ ap (λ v. then_parts c.push.new.self (reading.parts None (reading.signs n None v.tokens.now))) (sym w.self-is),
          )
      | in-Comma w ↦ one (Lit 44) Comma w.self-is w.part-is w.in-Comma.is refl
      | in-Close w ↦ one (Lit 125) Close w.self-is w.part-is w.in-Close.is refl
    ]

pub signs-init : goal.signs-init
signs-init c = (refl, no_parts (reading.parts None (reading.signs c.args.self.now.in_name None c.args.self.now.tokens.now)) c.new-parts.result c.new-parts.ensures)
