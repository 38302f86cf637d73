-- Lines by which names fold, worked out by hand: without blanks around them.
use Rattle.std.specs.Prelude.{◌≡◌, codes, refl}
use Rattle.hub_respelled.specs.Case.{case_of_text}
use Rattle.hub_respelled.specs.declared.case.LineCase.TheVariants as case

a_line : case_of_text (codes "ignorecase = true") ≡ case.Folds
a_line = refl

a_line_without_blanks : case_of_text (codes "fat=true") ≡ case.Folds
a_line_without_blanks = refl

another_value : case_of_text (codes "ignorecase = false") ≡ case.Unclear
another_value = refl

another_encoding : case_of_text (codes "unicode = false") ≡ case.Unclear
another_encoding = refl

the_encoding : case_of_text (codes "unicode = true") ≡ case.Agrees
the_encoding = refl

a_comment : case_of_text (codes "# ignorecase = true") ≡ case.Other
a_comment = refl

a_longer_name : case_of_text (codes "ignorecases = true") ≡ case.Other
a_longer_name = refl
