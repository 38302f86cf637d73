-- Worked values. Those of texts are what a script in Perl wrote that did the same, but for blanks,
-- and where a comment says so.
use Rattle.std.specs.Prelude.{◌≡◌, ℕ, false, true, List, [], ◌∷◌, None, Some, Ok, Err, codes, refl}
use Rattle.hub_hosts.specs.Folding.{folds_text, profile_for}
use Rattle.hub_hosts.specs.Profiles.{text_for}
use Rattle.hub_hosts.specs.Remotes.{folds_names, has_machine, has_own_row, is_here, is_of, path_of}
use Rattle.hub_hosts.specs.Table.{Row, rows_of}
use Rattle.hub_hosts.specs.declared.fault.HostsFault.TheVariants.{BadLine, SecondLine}

-- A table's rows.
abbrev row : List ℕ → List ℕ → Row
row name path = record { name = name; is_for_home = false; path = path; folds_names = false }

abbrev home_row : List ℕ → List ℕ → Row
home_row name path = record { name = name; is_for_home = true; path = path; folds_names = false }

a_table : rows_of (codes "# a comment\n\n\t Build \t/hosts/build/ \r\nanna@laptop~ /a b")
    ≡ Ok (row (codes "Build") (codes "/hosts/build")
    ∷ home_row (codes "anna@laptop") (codes "/a b") ∷ [])
a_table = refl

a_root_has_an_empty_path : rows_of (codes "top /") ≡ Ok (row (codes "top") [] ∷ [])
a_root_has_an_empty_path = refl

a_path_that_is_relative : rows_of (codes "\nbuild hosts/build") ≡ Err (BadLine 2)
a_path_that_is_relative = refl

a_host_without_a_path : rows_of (codes "build") ≡ Err (BadLine 1)
a_host_without_a_path = refl

a_host_with_a_slash : rows_of (codes "build/x /y") ≡ Err (BadLine 1)
a_host_with_a_slash = refl

-- The script takes it.
no_host_before_the_tilde : rows_of (codes "~ /y") ≡ Err (BadLine 1)
no_host_before_the_tilde = refl

a_second_line : rows_of (codes "build /a\nBUILD /a") ≡ Err (SecondLine 2)
a_second_line = refl

a_home_is_no_second_line : rows_of (codes "build /a\nbuild~ /b")
    ≡ Ok (row (codes "build") (codes "/a") ∷ home_row (codes "build") (codes "/b") ∷ [])
a_home_is_no_second_line = refl

-- Rows with a word before the host.
abbrev folding : Row → Row
folding r = record r { folds_names = true }

a_host_that_folds_names : rows_of (codes "folds-names pc /hosts/pc\nfolds-names\tpc~ /a b\n")
    ≡ Ok (folding (row (codes "pc") (codes "/hosts/pc"))
    ∷ folding (home_row (codes "pc") (codes "/a b")) ∷ [])
a_host_that_folds_names = refl

a_host_of_the_name_of_that_word : rows_of (codes "folds-names /x")
    ≡ Ok (row (codes "folds-names") (codes "/x") ∷ [])
a_host_of_the_name_of_that_word = refl

that_word_twice : rows_of (codes "folds-names folds-names /x")
    ≡ Ok (folding (row (codes "folds-names") (codes "/x")) ∷ [])
that_word_twice = refl

another_word : rows_of (codes "folds pc /x") ≡ Err (BadLine 1)
another_word = refl

that_word_without_a_host : rows_of (codes "folds-names") ≡ Err (BadLine 1)
that_word_without_a_host = refl

-- The rows of these examples.
abbrev rows : List Row
rows =
    row (codes "Build") (codes "/hosts/build") ∷ row (codes "anna@build") (codes "/hosts/anna")
    ∷ home_row (codes "laptop") (codes "/home/of/laptop") ∷ row (codes "top") []
    ∷ home_row (codes "top") (codes "/h") ∷ []

-- The text of a line.
abbrev told : List ℕ → List ℕ
told line = text_for rows None line

a_root : told (codes "root = ssh://build//srv/src\nroot = /srv/src\n")
    ≡ codes "root = /hosts/build/srv/src\nroot = /srv/src\n"
a_root = refl

a_user_comes_first : told (codes "root = ssh://anna@build//srv/src/")
    ≡ codes "root = /hosts/anna/srv/src"
a_user_comes_first = refl

another_user : told (codes "root = ssh://bob@build//srv") ≡ codes "root = /hosts/build/srv"
another_user = refl

capitals_and_a_port : told (codes "root = ssh://BUILD:22//srv") ≡ codes "root = /hosts/build/srv"
capitals_and_a_port = refl

a_socket : told (codes "root = socket://build:8080//srv") ≡ codes "root = /hosts/build/srv"
a_socket = refl

blanks_and_a_cr_stay : told (codes "  root\t=\tssh://build//a b/c  \r\n")
    ≡ codes "  root\t=\t/hosts/build/a b/c  \r\n"
blanks_and_a_cr_stay = refl

slashes_inside_stay : told (codes "root = ssh://build///srv//x//")
    ≡ codes "root = /hosts/build/srv//x"
slashes_inside_stay = refl

the_whole_host : told (codes "root = ssh://build//") ≡ codes "root = /hosts/build"
the_whole_host = refl

one_slash_is_a_home : told (codes "root = ssh://laptop/work") ≡ codes "root = /home/of/laptop/work"
one_slash_is_a_home = refl

a_missing_path_is_the_home : told (codes "root = ssh://laptop")
    ≡ codes "root = /home/of/laptop"
a_missing_path_is_the_home = refl

a_host_at_the_top : told (codes "root = ssh://top//srv\nroot = ssh://top//")
    ≡ codes "root = /srv\nroot = /"
a_host_at_the_top = refl

no_line_for_a_home : told (codes "root = ssh://build/x") ≡ codes "root = ssh://build/x"
no_line_for_a_home = refl

no_line_for_the_top : told (codes "root = ssh://laptop//x") ≡ codes "root = ssh://laptop//x"
no_line_for_the_top = refl

another_host : told (codes "root = ssh://anna@other//srv") ≡ codes "root = ssh://anna@other//srv"
another_host = refl

no_port : told (codes "root = ssh://build:x//srv") ≡ codes "root = ssh://build:x//srv"
no_port = refl

-- The script takes this host for the home of the other one.
a_tilde_at_the_end_of_a_host : told (codes "root = ssh://laptop~//srv")
    ≡ codes "root = ssh://laptop~//srv"
a_tilde_at_the_end_of_a_host = refl

another_scheme : told (codes "root = rsh://build//srv") ≡ codes "root = rsh://build//srv"
another_scheme = refl

a_comment : told (codes "# root = ssh://build//srv") ≡ codes "# root = ssh://build//srv"
a_comment = refl

another_name : told (codes "rootalias = ssh://build//srv") ≡ codes "rootalias = ssh://build//srv"
another_name = refl

a_root_that_is_forced : told (codes "force = ssh://build//srv") ≡ codes "force = /hosts/build/srv"
a_root_that_is_forced = refl

the_last_arrow : told (codes "nodeletionpartial = Path a -> b ->ssh://build//srv")
    ≡ codes "nodeletionpartial = Path a -> b ->/hosts/build/srv"
the_last_arrow = refl

-- The script leaves these lines as they are.
a_root_that_is_forced_on_a_path : told (codes "forcepartial = Path a -> ssh://build//srv")
    ≡ codes "forcepartial = Path a -> /hosts/build/srv"
a_root_that_is_forced_on_a_path = refl

-- A mark holds for the machine.
abbrev folding_rows : List Row
folding_rows =
    folding (row (codes "bob@pc") (codes "/pc")) ∷ row (codes "anna@pc") (codes "/anna")
    ∷ home_row (codes "pc") (codes "/home") ∷ []

a_root_there_folds : folds_names folding_rows None (codes "ssh://bob@PC:22//srv") ≡ true
a_root_there_folds = refl

a_user_without_a_mark : folds_names folding_rows None (codes "ssh://anna@pc//srv") ≡ true
a_user_without_a_mark = refl

a_home_without_a_mark : folds_names folding_rows None (codes "ssh://pc/srv") ≡ true
a_home_without_a_mark = refl

a_host_that_the_table_lacks : folds_names folding_rows None (codes "ssh://desk//srv") ≡ false
a_host_that_the_table_lacks = refl

a_root_here : folds_names folding_rows None (codes "/srv") ≡ false
a_root_here = refl

the_root_of_a_rule : told (codes "root = ssh://build//srv\nnolose = Path a -> ssh://build//x\n")
    ≡ codes "root = /hosts/build/srv\nnolose = Path a -> ssh://build//x\n"
the_root_of_a_rule = refl

-- The text of a line of a profile of the machine `build`.
abbrev told_there : List ℕ → List ℕ
told_there line = text_for rows (Some (codes "build")) line

a_root_there : told_there (codes "root = /home/anna\nroot = ssh://top//srv/src\n")
    ≡ codes "root = /hosts/build/home/anna\nroot = /srv/src\n"
a_root_there = refl

it_is_the_same_by_ssh : told (codes "root = ssh://build//home/anna")
    ≡ codes "root = /hosts/build/home/anna"
it_is_the_same_by_ssh = refl

roots_there_behind_other_names : told_there (codes "force = /a\nprefer =/b\nnocreation= /c/\n")
    ≡ codes "force = /hosts/build/a\nprefer =/hosts/build/b\nnocreation= /hosts/build/c\n"
roots_there_behind_other_names = refl

a_root_there_behind_an_arrow : told_there (codes "nodeletionpartial = Path a/b -> /srv ")
    ≡ codes "nodeletionpartial = Path a/b -> /hosts/build/srv "
a_root_there_behind_an_arrow = refl

the_whole_machine : told_there (codes "root = /") ≡ codes "root = /hosts/build"
the_whole_machine = refl

what_is_no_root_there : told_there (codes "force = newer\npath = /a\nroot = a\nroot = //a\n")
    ≡ codes "force = newer\npath = /a\nroot = a\nroot = //a\n"
what_is_no_root_there = refl

a_user_of_the_machine : path_of rows (Some (codes "anna@BUILD:22")) (codes "/x")
    ≡ Some (codes "/hosts/anna/x")
a_user_of_the_machine = refl

equal_roots_of_two_machines : path_of rows (Some (codes "top")) (codes "/x") ≡ Some (codes "/x")
equal_roots_of_two_machines = refl

a_row_for_a_machine : has_machine rows (codes "bob@Build") ≡ true
a_row_for_a_machine = refl

a_row_for_its_homes_alone : has_machine rows (codes "laptop") ≡ false
a_row_for_its_homes_alone = refl

a_row_for_this_machine : has_own_row rows ≡ true
a_row_for_this_machine = refl

no_row_for_this_machine : has_own_row folding_rows ≡ false
no_row_for_this_machine = refl

a_root_there_folds_names : folds_names folding_rows (Some (codes "pc")) (codes "/srv") ≡ true
a_root_there_folds_names = refl

a_root_on_the_hub_does_not : folds_names folding_rows (Some (codes "pc")) (codes "ssh://hub//srv")
    ≡ false
a_root_on_the_hub_does_not = refl

a_home_of_this_machine : is_here rows (home_row (codes "anna@TOP") (codes "/h")) ≡ true
a_home_of_this_machine = refl

another_machine : is_here rows (row (codes "build") (codes "/hosts/build")) ≡ false
another_machine = refl

a_home_alone_is_not_here : is_here folding_rows (home_row (codes "pc") []) ≡ false
a_home_alone_is_not_here = refl

a_machine_with_a_user_and_a_port : is_of (codes "bob@Build:22") (row (codes "anna@build") (codes "/hosts/anna"))
    ≡ true
a_machine_with_a_user_and_a_port = refl

a_machine_of_another_name : is_of (codes "buildx") (row (codes "build") (codes "/hosts/build")) ≡ false
a_machine_of_another_name = refl

a_profile_of_a_host_that_folds : profile_for folding_rows None (codes "root = /a\nroot = ssh://bob@pc//b")
    ≡ codes "root = /a\nroot = /pc/b\nignorecase = true\n"
a_profile_of_a_host_that_folds = refl

a_profile_of_that_host : profile_for folding_rows (Some (codes "bob@pc")) (codes "root = /b\npath = c\n")
    ≡ codes "root = /pc/b\npath = c\n\nignorecase = true\n"
a_profile_of_that_host = refl

a_profile_of_other_hosts : profile_for folding_rows None (codes "root = /a\nroot = ssh://hub//b\n")
    ≡ codes "root = /a\nroot = ssh://hub//b\n"
a_profile_of_other_hosts = refl

roots_here_do_not_fold : folds_text folding_rows None (codes "root = /a\nroot = /b\n") ≡ false
roots_here_do_not_fold = refl

roots_here_fold : folds_text (folding (row (codes "mac") []) ∷ []) None (codes "path = c\nroot = /a\n") ≡ true
roots_here_fold = refl

a_path_is_no_root : folds_text (folding (row (codes "mac") []) ∷ []) None (codes "path = /a\nforce = /a\n") ≡ false
a_path_is_no_root = refl
