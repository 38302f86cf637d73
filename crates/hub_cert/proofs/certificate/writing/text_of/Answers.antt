use Rattle.std.proofs.Common.{◌≡◌, ◌∙◌, ◌+◌, ◌&&◌, ◌++◌, ◌∷◌, [], List, ℕ, take, sym, ap, arith, append_assoc}
use Rattle.std.specs.Prelude.{codes}
use Rattle.std.specs.List.{flat_map, list_all}
use Rattle.std.proofs.lemmas.List.{flat_map_more, take_all, take_more}
use Rattle.std.proofs.lemmas.List.Folds.{list_all_more}
use Rattle.hub_cert.specs.Reading.{certificates_header}
use Rattle.hub_cert.specs.Writing.{certificate_text, have_characters, line}
use Rattle.hub_cert.specs.declared.certificate.Certificate.{Certificate}
use Rattle.hub_cert.proofs.certificate.writing.text_of.Goals as goal

pub loop-certificate-preserved : goal.loop-certificate-preserved
loop-certificate-preserved c =
    let cs = c.args.certificates.now in
    let n = c.loop-certificate.certificate-index in
    let d = c.certificate-item.result in
    let l = c.loop-certificate-test.true in
    let before = c.loop-certificate.invariant in
    let more : take (n + 1) cs ≡ take n cs ++ d ∷ [] = take_more cs n d l ∙ ap (λ (e : Certificate). take n cs ++ e ∷ []) (sym c.certificate-item.is) in
    let told = ap have_characters (sym c.certificate-item.is) ∙ c.in_ok-push_certificate.ensures.characters in
    record {
      text = c.in_ok-push_certificate.ensures.text
          ∙ (ap (λ (bs : List ℕ). bs ++ certificate_text d) before.text
          ∙ (flat_map_more certificate_text (line certificates_header) (take n cs) d
          ∙ ap (λ (ds : List Certificate). line certificates_header ++ flat_map certificate_text ds) (sym more)));
      characters = list_all_more have_characters cs n d l ∙ (λ i. before.characters i && told i);
    }

pub returns-clause-text : goal.returns-clause-text
returns-clause-text c =
    let cs = c.args.certificates.now in
    let whole = take_all c.loop-certificate.certificate-index cs (omega (arith, c.loop-certificate-test.false)) in
    c.in_ok-push_str-2.ensures.bytes
    ∙ (ap (λ (bs : List ℕ). bs ++ line (codes "end"))
    (c.loop-certificate.invariant.text ∙ ap (λ (ds : List Certificate). line certificates_header ++ flat_map certificate_text ds) whole)
    ∙ append_assoc (line certificates_header) (flat_map certificate_text cs) (line (codes "end")))

pub returns-clause-characters : goal.returns-clause-characters
returns-clause-characters c =
    let cs = c.args.certificates.now in
    let whole = take_all c.loop-certificate.certificate-index cs (omega (arith, c.loop-certificate-test.false)) in
    ap (list_all have_characters) (sym whole) ∙ c.loop-certificate.invariant.characters
