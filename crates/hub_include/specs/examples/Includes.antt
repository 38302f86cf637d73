-- Worked values of lines that include files. The rules were observed with Unison 2.52.1, mostly with
-- other contents. The fault of a cycle, the names of faults, and that a line which includes a file
-- stays are this project's choices.
use Rattle.std.specs.Prelude.{⊤, ◌≡◌, ℕ, true, false, List, [], ◌∷◌, ◌++◌, Some, None, Ok, Err, bytes_eq, codes, if◌then◌else◌, refl}
use Rattle.std.specs.Str.{is_utf8, chars}
use Rattle.hub_include.specs.declared.fault.Why.TheVariants.{BadLine, NoFile, Cycle}
use Rattle.hub_include.specs.Files.{Known}
use Rattle.hub_include.specs.Words.{asked, asked_by, name_in}
use Rattle.hub_include.specs.Includes.{Placed, Told, fault_at, lines_of, mark, placed}

-- What these examples compute.
computed : ⊤
unfolding is_utf8 chars lib.Utf8.encode
computed = tt

a_word_and_a_blank : asked_by (codes "include c") ≡ asked true false (codes "c")
a_word_and_a_blank = refl

a_question_mark : asked_by (codes "source? c") ≡ asked false true (codes "c")
a_question_mark = refl

a_blank_before_the_word : asked_by (codes " include c") ≡ None
a_blank_before_the_word = refl

a_tab_behind_the_word : asked_by (codes "include\tc") ≡ None
a_tab_behind_the_word = refl

an_equals_sign : asked_by (codes "include=c") ≡ None
an_equals_sign = refl

blanks_around_a_name : name_in (codes "  c ") ≡ Some (codes "c")
unfolding computed
blanks_around_a_name = refl

two_names : name_in (codes "c d") ≡ None
two_names = refl

no_name : name_in (codes " ") ≡ None
no_name = refl

a_backslash_before_a_blank : name_in (codes "a\\ b") ≡ Some (codes "a b")
unfolding computed
a_backslash_before_a_blank = refl

a_backslash_before_a_letter : name_in (codes "a\\b") ≡ Some (codes "ab")
unfolding computed
a_backslash_before_a_letter = refl

two_backslashes : name_in (codes "a\\\\b") ≡ Some (codes "a\\b")
unfolding computed
two_backslashes = refl

a_backslash_at_the_end : name_in (codes "c\\") ≡ Some (codes "c")
unfolding computed
a_backslash_at_the_end = refl

a_tab_is_no_blank : name_in (codes "c\t") ≡ Some (codes "c\t")
unfolding computed
a_tab_is_no_blank = refl

-- A folder whose one profile `p.prf` has these bytes. There is a file `common`, one `common.prf`
-- and one `only.prf`, and in a folder `sub` a file `part` that includes `common`, and one `common`.
abbrev here : List ℕ → Known
here bytes name =
    if bytes_eq name (codes "p.prf") then Some (Some bytes)
    else (if bytes_eq name (codes "common") then Some (Some (codes "ignore = Name x"))
    else (if bytes_eq name (codes "common.prf") then Some (Some (codes "ignore = Name y\r\n"))
    else (if bytes_eq name (codes "only.prf") then Some (Some (mark ++ codes "ignore = Name z\n"))
    else (if bytes_eq name (codes "sub/part") then Some (Some (codes "include common\n"))
    else (if bytes_eq name (codes "sub/common") then Some (Some (codes "ignore = Name s\n"))
    else (if bytes_eq name (codes "loop") then Some (Some (codes "include p.prf\n"))
    else Some None))))))

abbrev at : List ℕ → ℕ → List ℕ → Placed
at file number text = placed file number text

abbrev told : List ℕ → Told
told bytes = lines_of (here bytes) (codes "p.prf")

the_lines_follow_the_line : told (codes "a = 1\ninclude common\nb = 2")
    ≡ Ok (at (codes "p.prf") 1 (codes "a = 1")
    ∷ (at (codes "p.prf") 2 (codes "include common")
    ∷ (at (codes "common") 1 (codes "ignore = Name x")
    ∷ (at (codes "p.prf") 3 (codes "b = 2") ∷ []))))
unfolding computed
the_lines_follow_the_line = refl

the_name_comes_before_the_one_with_the_ending : told (codes "include common.prf\n")
    ≡ Ok (at (codes "p.prf") 1 (codes "include common.prf")
    ∷ (at (codes "common.prf") 1 (codes "ignore = Name y\r") ∷ []))
unfolding computed
the_name_comes_before_the_one_with_the_ending = refl

the_ending_is_added_and_the_mark_is_dropped : told (mark ++ codes "include only\r\n")
    ≡ Ok (at (codes "p.prf") 1 (codes "include only\r")
    ∷ (at (codes "only.prf") 1 (codes "ignore = Name z") ∷ []))
unfolding computed
the_ending_is_added_and_the_mark_is_dropped = refl

no_ending_is_added_for_source : told (codes "source only\n")
    ≡ Err (fault_at (at (codes "p.prf") 1 (codes "source only")) NoFile)
unfolding computed
no_ending_is_added_for_source = refl

a_name_in_a_sub_folder_is_below_the_top : told (codes "include sub/part\n")
    ≡ Ok (at (codes "p.prf") 1 (codes "include sub/part")
    ∷ (at (codes "sub/part") 1 (codes "include common")
    ∷ (at (codes "common") 1 (codes "ignore = Name x") ∷ [])))
unfolding computed
a_name_in_a_sub_folder_is_below_the_top = refl

a_file_that_may_be_missing : told (codes "include? nope\n")
    ≡ Ok (at (codes "p.prf") 1 (codes "include? nope") ∷ [])
unfolding computed
a_file_that_may_be_missing = refl

a_missing_file : told (codes "\ninclude nope\n")
    ≡ Err (fault_at (at (codes "p.prf") 2 (codes "include nope")) NoFile)
unfolding computed
a_missing_file = refl

two_names_on_a_line : told (codes "include? nope nope\n")
    ≡ Err (fault_at (at (codes "p.prf") 1 (codes "include? nope nope")) BadLine)
unfolding computed
two_names_on_a_line = refl

-- Unison overflows its stack.
a_cycle : told (codes "include loop\n")
    ≡ Err (fault_at (at (codes "loop") 1 (codes "include p.prf")) Cycle)
unfolding computed
a_cycle = refl

a_file_twice_is_no_cycle : told (codes "source common\nsource common\n")
    ≡ Ok (at (codes "p.prf") 1 (codes "source common")
    ∷ (at (codes "common") 1 (codes "ignore = Name x")
    ∷ (at (codes "p.prf") 2 (codes "source common")
    ∷ (at (codes "common") 1 (codes "ignore = Name x") ∷ []))))
unfolding computed
a_file_twice_is_no_cycle = refl
