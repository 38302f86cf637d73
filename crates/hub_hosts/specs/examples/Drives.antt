-- Roots on drives of Windows, worked by hand.
use Rattle.std.specs.Prelude.{◌≡◌, ℕ, Bool, false, true, List, [], ◌∷◌, Option, None, Some, codes, refl}
use Rattle.hub_hosts.specs.Folding.{folds_text, profile_for}
use Rattle.hub_hosts.specs.Profiles.{names_drive, text_for}
use Rattle.hub_hosts.specs.Remotes.{folds_names, path_of}
use Rattle.hub_hosts.specs.Table.{Row}

-- The rows of these examples.
abbrev row : List ℕ → List ℕ → Row
row name path = record { name = name; is_for_home = false; path = path; folds_names = false }

abbrev home_row : List ℕ → List ℕ → Row
home_row name path = record { name = name; is_for_home = true; path = path; folds_names = false }

abbrev rows : List Row
rows =
    row (codes "pc1") (codes "/hosts/pc1") ∷ home_row (codes "pc1") (codes "/home/bob")
    ∷ row (codes "hub") [] ∷ home_row (codes "pc2") (codes "/pc2") ∷ []

-- The path for a root of a profile of this machine, and for one of a profile of the machine `pc1`.
abbrev here : List ℕ → Option (List ℕ)
here root = path_of rows None root

abbrev there : List ℕ → Option (List ℕ)
there root = path_of rows (Some (codes "pc1")) root

-- One folder by each of its names.
abbrev users : Option (List ℕ)
users = Some (codes "/hosts/pc1/C:/Users/bob")

by_ssh : here (codes "ssh://bob@pc1/C:/Users/bob") ≡ users
by_ssh = refl

by_a_small_letter_and_a_slash : here (codes "ssh://pc1/c:/Users/bob/") ≡ users
by_a_small_letter_and_a_slash = refl

by_backslashes_and_ssh : here (codes "ssh://pc1/c:\\Users\\bob\\") ≡ users
by_backslashes_and_ssh = refl

by_a_socket_and_a_port : here (codes "socket://PC1:8080/C:/Users\\bob") ≡ users
by_a_socket_and_a_port = refl

by_cygdrive_and_ssh : here (codes "ssh://pc1//cygdrive/c/Users/bob") ≡ users
by_cygdrive_and_ssh = refl

by_a_capital_behind_cygdrive : here (codes "ssh://pc1//cygdrive/C/Users/bob/") ≡ users
by_a_capital_behind_cygdrive = refl

by_more_slashes : here (codes "ssh://pc1///cygdrive//c//Users/bob//") ≡ users
by_more_slashes = refl

by_a_root_there : there (codes "C:/Users/bob") ≡ users
by_a_root_there = refl

by_backslashes : there (codes "c:\\Users\\bob") ≡ users
by_backslashes = refl

by_cygdrive : there (codes "/cygdrive/c/Users/bob") ≡ users
by_cygdrive = refl

by_cygdrive_and_backslashes : there (codes "/cygdrive/c/Users\\bob") ≡ users
by_cygdrive_and_backslashes = refl

-- The same drive of this machine, by a name of it or by none.
abbrev own_users : Option (List ℕ)
own_users = Some (codes "/C:/Users/bob")

own_by_a_drive : here (codes "C:/Users/bob") ≡ own_users
own_by_a_drive = refl

own_by_backslashes : here (codes "c:\\Users\\bob\\") ≡ own_users
own_by_backslashes = refl

own_by_cygdrive : here (codes "/cygdrive/c/Users/bob") ≡ own_users
own_by_cygdrive = refl

own_by_ssh : here (codes "ssh://hub/c:/Users/bob") ≡ own_users
own_by_ssh = refl

own_from_there : there (codes "ssh://hub//cygdrive/c/Users/bob") ≡ own_users
own_from_there = refl

-- A whole drive, and what is behind its letter.
a_whole_drive : there (codes "C:") ≡ Some (codes "/hosts/pc1/C:")
a_whole_drive = refl

a_whole_drive_and_a_slash : there (codes "C:/") ≡ Some (codes "/hosts/pc1/C:")
a_whole_drive_and_a_slash = refl

a_whole_drive_and_a_backslash : here (codes "d:\\") ≡ Some (codes "/D:")
a_whole_drive_and_a_backslash = refl

a_whole_drive_by_cygdrive : there (codes "/cygdrive/z") ≡ Some (codes "/hosts/pc1/Z:")
a_whole_drive_by_cygdrive = refl

two_slashes_behind_a_drive : there (codes "C://x") ≡ Some (codes "/hosts/pc1/C:/x")
two_slashes_behind_a_drive = refl

both_slashes_behind_a_drive : there (codes "C:\\/x//y") ≡ Some (codes "/hosts/pc1/C:/x//y")
both_slashes_behind_a_drive = refl

-- No drives of this machine, nor of that one: these stay.
two_letters : here (codes "CC:/x") ≡ None
two_letters = refl

two_letters_there : there (codes "CC:/x") ≡ None
two_letters_there = refl

a_digit : there (codes "1:/x") ≡ None
a_digit = refl

a_letter_that_is_no_ascii : there (codes "é:/x") ≡ None
a_letter_that_is_no_ascii = refl

relative_to_a_drive : there (codes "C:x") ≡ None
relative_to_a_drive = refl

relative_to_a_drive_here : here (codes "C:x") ≡ None
relative_to_a_drive_here = refl

no_letter : there (codes ":/x") ≡ None
no_letter = refl

a_letter_alone : there (codes "C") ≡ None
a_letter_alone = refl

two_slashes_before_cygdrive : there (codes "//cygdrive/c/x") ≡ None
two_slashes_before_cygdrive = refl

no_drive_here : here (codes "/cygdrive/cc/x") ≡ None
no_drive_here = refl

-- These are paths on that machine, and relative to a home of it.
two_letters_behind_cygdrive : there (codes "/cygdrive/cc/x")
    ≡ Some (codes "/hosts/pc1/cygdrive/cc/x")
two_letters_behind_cygdrive = refl

cygdrive_alone : there (codes "/cygdrive") ≡ Some (codes "/hosts/pc1/cygdrive")
cygdrive_alone = refl

no_letter_behind_cygdrive : there (codes "/cygdrive/") ≡ Some (codes "/hosts/pc1/cygdrive")
no_letter_behind_cygdrive = refl

another_name : there (codes "/cygdrivec/x") ≡ Some (codes "/hosts/pc1/cygdrivec/x")
another_name = refl

a_drive_behind_a_slash : there (codes "/c:\\x") ≡ Some (codes "/hosts/pc1/c:\\x")
a_drive_behind_a_slash = refl

a_backslash_on_no_drive : there (codes "/x\\y") ≡ Some (codes "/hosts/pc1/x\\y")
a_backslash_on_no_drive = refl

two_letters_in_a_home : here (codes "ssh://pc1/CC:/x") ≡ Some (codes "/home/bob/CC:/x")
two_letters_in_a_home = refl

relative_to_a_drive_in_a_home : here (codes "ssh://pc1/C:x") ≡ Some (codes "/home/bob/C:x")
relative_to_a_drive_in_a_home = refl

cygdrive_in_a_home : here (codes "ssh://pc1/cygdrive/c/x")
    ≡ Some (codes "/home/bob/cygdrive/c/x")
cygdrive_in_a_home = refl

-- The row for homes isn't that of drives.
a_drive_of_a_home_alone : here (codes "ssh://pc2/C:/x") ≡ None
a_drive_of_a_home_alone = refl

a_drive_of_an_unknown_host : here (codes "ssh://pc3/C:/x") ≡ None
a_drive_of_an_unknown_host = refl

-- Names fold there, though no row says so.
abbrev folds : List ℕ → Bool
folds root = folds_names rows None root

a_drive_folds : folds (codes "C:/x") ≡ true
a_drive_folds = refl

cygdrive_folds : folds (codes "/cygdrive/c") ≡ true
cygdrive_folds = refl

a_drive_there_folds : folds (codes "ssh://pc1/C:\\x") ≡ true
a_drive_there_folds = refl

cygdrive_there_folds : folds (codes "ssh://pc1//cygdrive/c/x") ≡ true
cygdrive_there_folds = refl

its_own_drive_folds : folds_names rows (Some (codes "pc1")) (codes "C:/x") ≡ true
its_own_drive_folds = refl

a_folder_there_does_not : folds (codes "ssh://pc1//cygdrive/cc/x") ≡ false
a_folder_there_does_not = refl

no_drive_does_not : folds (codes "C:x") ≡ false
no_drive_does_not = refl

its_own_folder_does_not : folds_names rows (Some (codes "pc1")) (codes "/cygdrive") ≡ false
its_own_folder_does_not = refl

-- Whole texts.
roots_there : text_for rows (Some (codes "pc1")) (codes "root = C:\\Docs \r\nroot =ssh://hub//srv")
    ≡ codes "root = /hosts/pc1/C:/Docs \r\nroot =/srv"
roots_there = refl

bars_there : text_for rows (Some (codes "pc1"))
    (codes "force = C:/Docs\nnoupdatepartial = Path x -> C:/Docs\npath = C:/a")
    ≡ codes "force = /hosts/pc1/C:/Docs\nnoupdatepartial = Path x -> /hosts/pc1/C:/Docs\npath = C:/a"
bars_there = refl

bars_here : text_for rows None (codes "root = /srv\nprefer = d:\\Docs\nforce = newer\n")
    ≡ codes "root = /srv\nprefer = /D:/Docs\nforce = newer\n"
bars_here = refl

a_profile_of_the_hub : profile_for rows None (codes "root = /srv\nroot = ssh://pc1/c:/Docs\n")
    ≡ codes "root = /srv\nroot = /hosts/pc1/C:/Docs\n\nignorecase = true\n"
a_profile_of_the_hub = refl

a_bar_does_not_fold : folds_text rows None (codes "root = /srv\nforce = C:/Docs\n") ≡ false
a_bar_does_not_fold = refl

a_line_with_a_drive : names_drive (codes "preferpartial = Path a -> c:\\") ≡ true
a_line_with_a_drive = refl

a_line_without_a_drive : names_drive (codes "path = c:/a") ≡ false
a_line_without_a_drive = refl
