-- Worked values of the definitions, by computation.
use Rattle.std.specs.Prelude.{◌≡◌, true, false, [], ◌∷◌, codes, refl}
use Rattle.hub_text.specs.Blanks.{is_blank, skip_blanks}
use Rattle.hub_text.specs.Lines.{lines_of, text_of_lines, ended, unended, without_last}

no_text_has_no_lines : lines_of [] ≡ []
no_text_has_no_lines = refl

an_lf_at_the_end_begins_no_line : lines_of (codes "a\nb\n")
    ≡ ended (codes "a") ∷ ended (codes "b") ∷ []
an_lf_at_the_end_begins_no_line = refl

the_last_line_may_lack_its_lf : lines_of (codes "a\n\nb")
    ≡ ended (codes "a") ∷ ended [] ∷ unended (codes "b") ∷ []
the_last_line_may_lack_its_lf = refl

an_lf_alone_is_an_empty_line : lines_of (codes "\n") ≡ ended [] ∷ []
an_lf_alone_is_an_empty_line = refl

a_cr_belongs_to_its_line : lines_of (codes "a\r\n") ≡ ended (codes "a\r") ∷ []
a_cr_belongs_to_its_line = refl

lines_have_their_text : text_of_lines (lines_of (codes "a\n\nb")) ≡ codes "a\n\nb"
lines_have_their_text = refl

one_character_is_dropped : without_last 13 (codes "a\r\r") ≡ codes "a\r"
one_character_is_dropped = refl

a_character_elsewhere_stays : without_last 13 (codes "\ra") ≡ codes "\ra"
a_character_elsewhere_stays = refl

a_tab_is_blank : is_blank 9 ≡ true
a_tab_is_blank = refl

a_cr_is_not_blank : is_blank 13 ≡ false
a_cr_is_not_blank = refl

blanks_at_the_start_are_skipped : skip_blanks (codes " \t b ") ≡ codes "b "
blanks_at_the_start_are_skipped = refl
