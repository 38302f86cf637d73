-- Worked examples.
use Rattle.std.specs.Prelude.{◌≡◌, ℕ, true, false, List, [], ◌∷◌, map, Some, None, codes, refl}
use Rattle.hub_glob.specs.declared.piece.Piece.TheVariants.{Lit, Any, Run}
use Rattle.hub_glob.specs.declared.piece.Part.TheVariants.{One}
use Rattle.hub_glob.specs.declared.path_spec.Kind.TheVariants as kind
use Rattle.hub_glob.specs.Specification.{Specification}
use Rattle.hub_automaton.specs.declared.alternatives.Alternatives.{Alternatives}
use Rattle.hub_automaton.specs.Spots.{spots, unpacked, state_after, alternatives_of, path_alternatives, is_matched, spots_count}
use Rattle.hub_automaton.specs.forms.Stepping.{pushed}
use Rattle.hub_automaton.specs.Alphabet.{class_of, class_count, sample, plain, with_characters, spec_characters}

-- `Name b`
abbrev name_b : Specification
name_b = record { kind = kind.Name; pattern = One (Lit 98) ∷ [] }

abbrev of_b : List ℕ
of_b = with_characters plain (spec_characters name_b)

four_classes_have_these_samples : map (sample of_b) (0 ∷ 1 ∷ 2 ∷ 3 ∷ []) ≡ codes "a./b"
four_classes_have_these_samples = refl

there_are_four : class_count of_b ≡ 4
there_are_four = refl

mentioned_characters_have_classes_of_their_own : map (class_of of_b) (codes "./bz")
    ≡ Some 1 ∷ Some 2 ∷ Some 3 ∷ Some 0 ∷ []
mentioned_characters_have_classes_of_their_own = refl

left_out_characters_have_none : map (class_of of_b) (0 ∷ 10 ∷ 13 ∷ []) ≡ None ∷ None ∷ None ∷ []
left_out_characters_have_none = refl

the_sample_of_others_is_not_mentioned : sample (with_characters plain (codes "cab")) 0 ≡ 100
the_sample_of_others_is_not_mentioned = refl

-- `?*` and `acy`: two pieces match, and one doesn't.
a_star_goes_on_after_itself : spots (Any ∷ Run ∷ []) (codes "acy") ≡ false ∷ false ∷ true ∷ []
a_star_goes_on_after_itself = refl

a_star_may_take_nothing : spots (Lit 97 ∷ Run ∷ Run ∷ []) (codes "a")
    ≡ false ∷ true ∷ true ∷ true ∷ []
a_star_may_take_nothing = refl

a_star_takes_no_leading_dot : spots (Run ∷ Lit 47 ∷ Run ∷ []) (codes "a/.b")
    ≡ false ∷ false ∷ false ∷ false ∷ []
a_star_takes_no_leading_dot = refl

-- `Name b` after `a/`: nothing of it is matched, by no pieces.
after_a_slash_a_name_begins : unpacked (alternatives_of name_b ∷ []) (codes "a/")
    ≡ record { live = true ∷ false ∷ []; below = false ∷ []; start = true }
after_a_slash_a_name_begins = refl

a_word_of_spots_is_kept_and_one_of_flags : state_after (alternatives_of name_b ∷ []) (codes "a/b")
    ≡ record { row = 2 ∷ 0 ∷ []; start = false }
a_word_of_spots_is_kept_and_one_of_flags = refl

-- `BelowPath b` on `b/c`.
abbrev below_b : Specification
below_b = record { kind = kind.BelowPath; pattern = One (Lit 98) ∷ [] }

a_path_above_is_matched : unpacked (alternatives_of below_b ∷ []) (codes "b/c")
    ≡ record { live = false ∷ false ∷ []; below = true ∷ []; start = false }
a_path_above_is_matched = refl

its_flag_is_the_lowest_bit : state_after (alternatives_of below_b ∷ []) (codes "b/c")
    ≡ record { row = 0 ∷ 1 ∷ []; start = false }
its_flag_is_the_lowest_bit = refl

the_second_flag_is_the_next_bit :
    state_after (alternatives_of name_b ∷ alternatives_of below_b ∷ []) (codes "b/c")
    ≡ record { row = 0 ∷ 2 ∷ []; start = false }
the_second_flag_is_the_next_bit = refl

no_path_above_is_matched_inside_a_name : unpacked (alternatives_of below_b ∷ []) (codes "bc")
    ≡ record { live = false ∷ false ∷ []; below = false ∷ []; start = false }
no_path_above_is_matched_inside_a_name = refl

one_character_more : pushed (alternatives_of below_b ∷ [])
    (unpacked (alternatives_of below_b ∷ []) (codes "b")) 47
    ≡ unpacked (alternatives_of below_b ∷ []) (codes "b/")
one_character_more = refl

-- The path `b/c`, as choices.
abbrev path_b_c : Alternatives
path_b_c = path_alternatives (codes "b/c")

a_path_matches_its_own_text_alone :
    map (is_matched path_b_c) (codes "b/c" ∷ codes "b/c/d" ∷ codes "b" ∷ codes "b/cd"
    ∷ codes "a/b/c" ∷ []) ≡ true ∷ false ∷ false ∷ false ∷ false ∷ []
a_path_matches_its_own_text_alone = refl

a_path_has_a_spot_more_than_characters : spots_count (path_b_c ∷ []) ≡ 4
a_path_has_a_spot_more_than_characters = refl
