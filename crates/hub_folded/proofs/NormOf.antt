-- There is a way to fold that a folding knows.
use Rattle.std.proofs.Common.{◌≡◌, true, Option, Some, None, refl, ap, ◌∙◌}
use Rattle.std.proofs.lemmas.Bool.{and_parts}
use Rattle.hub_glob.specs.Specification.{Specification}
use Rattle.hub_glob.specs.contracts.path_spec.PathSpecPartialEq.TheImpl as tested
use Rattle.hub_glob.specs.contracts.path_spec.PathSpecExact.TheImpl.Laws as tested_laws
use Rattle.hub_profile.specs.Parts.{some_passes}
use Rattle.hub_unison.specs.Lines.{LineText, line_spec}
use Rattle.hub_folded.specs.Fold.{Folding}
use Rattle.hub_folded.specs.Lines.{fold_spec, is_spelled, knows_line, knows_spec, line_of}
use Rattle.hub_folded.specs.InUnison.{IsNormOf, folded_line, norm_of}
use Rattle.hub_folded.proofs.Paths.{no}

spelled-as : (s : Specification) (o : Option Specification)
    → some_passes (λ t. tested.eq-value.it t s) o ≡ true → o ≡ Some s
spelled-as s None h = no h
spelled-as s (Some t) h = ap (λ u. Some u) ((tested_laws.exact-law t s).0 h)

line-met : (F : Folding) (l : LineText) (s : Specification) → line_spec l ≡ Some s
    → knows_line F s ≡ true → line_spec (folded_line F (line_spec l)) ≡ Some (fold_spec F s)
line-met F l s e known =
    ap (λ o. line_spec (folded_line F o)) e
    ∙ spelled-as (fold_spec F s) (line_spec (line_of (fold_spec F s)))
    (and_parts (knows_spec F s) (is_spelled (fold_spec F s)) known).1

pub norm-met : (F : Folding) → IsNormOf F (norm_of F)
norm-met F = record { names = λ n h. refl; lines = λ l s e known. line-met F l s e known }
