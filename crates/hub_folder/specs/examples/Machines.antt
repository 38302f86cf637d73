-- Worked values of operands.
use Rattle.std.specs.Prelude.{◌≡◌, [], ◌∷◌, codes, refl, Some, None}
use Rattle.hub_folder.specs.Machines.{machine_of, second_machine, source_of}

a_folder_of_a_machine : machine_of (codes "pc=/home/anna/.unison") ≡ Some (codes "pc")
a_folder_of_a_machine = refl

its_path : source_of (codes "pc=/home/anna/.unison") ≡ codes "/home/anna/.unison"
its_path = refl

a_user_of_a_machine : machine_of (codes "anna@pc=docs.prf") ≡ Some (codes "anna@pc")
a_user_of_a_machine = refl

a_folder_without_a_machine : machine_of (codes "/home/anna/.unison") ≡ None
a_folder_without_a_machine = refl

a_slash_before_the_sign : machine_of (codes "./a=b") ≡ None
a_slash_before_the_sign = refl

the_path_is_all_of_it : source_of (codes "./a=b") ≡ codes "./a=b"
the_path_is_all_of_it = refl

no_name_before_the_sign : machine_of (codes "=b") ≡ None
no_name_before_the_sign = refl

only_the_first_sign_counts : source_of (codes "pc=a=b/c=d") ≡ codes "a=b/c=d"
only_the_first_sign_counts = refl

no_path_behind_the_sign : source_of (codes "pc=") ≡ []
no_path_behind_the_sign = refl

a_machine_twice : second_machine (codes "hub" ∷ codes "pc=a" ∷ codes "b" ∷ codes "PC=c" ∷ [])
    ≡ Some (codes "PC=c")
a_machine_twice = refl

two_users_of_a_machine : second_machine (codes "anna@pc=a" ∷ codes "bob@pc=a" ∷ []) ≡ None
two_users_of_a_machine = refl

folders_without_a_machine : second_machine (codes "a" ∷ codes "a" ∷ []) ≡ None
folders_without_a_machine = refl
