-- Worked values of the words on the command line.
use Rattle.std.specs.Prelude.{⊤, ◌≡◌, List, [], ◌∷◌, Option, Some, None, codes, false, refl, true}
use Rattle.clap.proofs.OnLiterals.{clap_on_literals}
use Rattle.clap.specs.Words.{Text}
use Rattle.hub_cli.specs.Words.{Names, Request, about, asked_of, files_of, hubsync_app, is_strict_of, no_names}
use Rattle.hub_cli.specs.Words.{imported, mended, planned, reach, rounds_alone}
use Rattle.hub_cli.specs.declared.words.Question.TheVariants.{CheckWithState, Run, RunByRounds, RunInOrder}
use Rattle.hub_cli.specs.declared.words.Question.TheVariants.{Check, Certify, Verify}
use Rattle.hub_cli.specs.declared.words.Question.TheVariants.{Clashes, Graph, Rounds}
use Rattle.hub_cli.specs.declared.words.Reading.TheVariants.{Plain, Unison}
use Rattle.hub_cli.specs.declared.words.TheConstants.{DEFAULT_WORKERS}

-- What these examples compute.
computed : ⊤
unfolding clap_on_literals asked_of files_of hubsync_app is_strict_of
computed = tt

abbrev asked : List Text → Option Request
asked words = asked_of (codes "hubsync" ∷ words)

abbrev named : List Text → Names
named words = files_of (codes "hubsync" ∷ words)

no_words : asked [] ≡ Some (about CheckWithState)
unfolding computed
no_words = refl

the_reach_of_a_path :
    asked (codes "reach" ∷ codes "p" ∷ codes "a" ∷ []) ≡ Some (reach Plain (codes "p") (codes "a"))
unfolding computed
the_reach_of_a_path = refl

an_empty_operand : asked (codes "reach" ∷ codes "p" ∷ [] ∷ []) ≡ Some (reach Plain (codes "p") [])
unfolding computed
an_empty_operand = refl

a_hyphen_alone_is_an_operand :
    asked (codes "reach" ∷ codes "-" ∷ codes "a" ∷ []) ≡ Some (reach Plain (codes "-") (codes "a"))
unfolding computed
a_hyphen_alone_is_an_operand = refl

a_hyphen_after_two_hyphens :
    asked (codes "reach" ∷ codes "--" ∷ codes "-p" ∷ codes "a" ∷ [])
    ≡ Some (reach Plain (codes "-p") (codes "a"))
unfolding computed
a_hyphen_after_two_hyphens = refl

a_hyphen_with_none_before_it : asked (codes "reach" ∷ codes "-p" ∷ codes "a" ∷ []) ≡ None
unfolding computed
a_hyphen_with_none_before_it = refl

two_hyphens_are_no_command : asked (codes "--" ∷ []) ≡ Some (about CheckWithState)
unfolding computed
two_hyphens_are_no_command = refl

no_command_follows_two_hyphens :
    asked (codes "--" ∷ codes "reach" ∷ codes "p" ∷ codes "a" ∷ []) ≡ None
unfolding computed
no_command_follows_two_hyphens = refl

a_missing_path : asked (codes "reach" ∷ codes "p" ∷ []) ≡ None
unfolding computed
a_missing_path = refl

an_operand_too_many : asked (codes "reach" ∷ codes "p" ∷ codes "a" ∷ codes "b" ∷ []) ≡ None
unfolding computed
an_operand_too_many = refl

the_check_by_its_name : asked (codes "check" ∷ []) ≡ Some (about (Check Plain))
unfolding computed
the_check_by_its_name = refl

certificates : asked (codes "certify" ∷ []) ≡ Some (about Certify)
unfolding computed
certificates = refl

certificates_of_the_bundle : asked (codes "verify" ∷ []) ≡ Some (about Verify)
unfolding computed
certificates_of_the_bundle = refl

all_clashes : asked (codes "clashes" ∷ []) ≡ Some (about (Clashes Plain))
unfolding computed
all_clashes = refl

a_graph_of_the_clashes : asked (codes "clashes" ∷ codes "--dot" ∷ []) ≡ Some (about (Graph Plain))
unfolding computed
a_graph_of_the_clashes = refl

a_graph_of_files :
    asked (codes "clashes" ∷ codes "a.prf" ∷ codes "--dot" ∷ []) ≡ Some (about (Graph Plain))
unfolding computed
a_graph_of_files = refl

a_flag_has_no_value : asked (codes "clashes" ∷ codes "--dot=true" ∷ []) ≡ None
unfolding computed
a_flag_has_no_value = refl

a_flag_twice : asked (codes "clashes" ∷ codes "--dot" ∷ codes "--dot" ∷ []) ≡ None
unfolding computed
a_flag_twice = refl

a_graph_of_rounds : asked (codes "rounds" ∷ codes "--dot" ∷ []) ≡ None
unfolding computed
a_graph_of_rounds = refl

clashes_by_rounds : asked (codes "clashes" ∷ codes "--rounds" ∷ []) ≡ None
unfolding computed
clashes_by_rounds = refl

rounds_of_the_profiles : asked (codes "rounds" ∷ []) ≡ Some (about (Rounds Plain))
unfolding computed
rounds_of_the_profiles = refl

rounds_have_no_other_operands : asked (codes "rounds" ∷ codes "2" ∷ []) ≡ None
unfolding computed
rounds_have_no_other_operands = refl

an_operand_is_the_file_of_a_profile :
    asked (codes "check" ∷ codes "a.prf" ∷ codes "b/c.prf" ∷ []) ≡ Some (about (Check Plain))
unfolding computed
an_operand_is_the_file_of_a_profile = refl

a_bundle_is_no_operand : asked (codes "check" ∷ codes "a.prf" ∷ codes "b.bundle" ∷ []) ≡ None
unfolding computed
a_bundle_is_no_operand = refl

rules_need_a_profile : asked (codes "check" ∷ codes "--rules" ∷ codes "r" ∷ []) ≡ None
unfolding computed
rules_need_a_profile = refl

a_state_needs_a_profile : asked (codes "run" ∷ codes "--state" ∷ codes "s" ∷ []) ≡ None
unfolding computed
a_state_needs_a_profile = refl

certificates_need_a_profile :
    asked (codes "verify" ∷ codes "--certificates" ∷ codes "c" ∷ []) ≡ None
unfolding computed
certificates_need_a_profile = refl

rules_beside_a_profile :
    asked (codes "check" ∷ codes "--rules" ∷ codes "r" ∷ codes "a.prf" ∷ [])
    ≡ Some (about (Check Plain))
unfolding computed
rules_beside_a_profile = refl

a_check_for_unison : asked (codes "check" ∷ codes "--unison" ∷ []) ≡ Some (about (Check Unison))
unfolding computed
a_check_for_unison = refl

a_check_of_files_for_unison :
    asked (codes "check" ∷ codes "--unison" ∷ codes "a.prf" ∷ codes "--rules=r" ∷ [])
    ≡ Some (about (Check Unison))
unfolding computed
a_check_of_files_for_unison = refl

a_check_of_a_folder_for_unison :
    asked (codes "check" ∷ codes "--unison" ∷ codes "dir" ∷ codes "--hosts=t" ∷ [])
    ≡ Some (about (Check Unison))
unfolding computed
a_check_of_a_folder_for_unison = refl

a_folder_is_for_unison : asked (codes "check" ∷ codes "dir" ∷ []) ≡ None
unfolding computed
a_folder_is_for_unison = refl

hosts_are_for_unison : asked (codes "check" ∷ codes "a.prf" ∷ codes "--hosts=t" ∷ []) ≡ None
unfolding computed
hosts_are_for_unison = refl

hosts_alone : asked (codes "check" ∷ codes "--unison" ∷ codes "--hosts=t" ∷ []) ≡ None
unfolding computed
hosts_alone = refl

an_import_of_a_folder : asked (codes "import" ∷ codes "dir" ∷ []) ≡ Some imported
unfolding computed
an_import_of_a_folder = refl

an_import_of_files_beside_rules :
    asked (codes "import" ∷ codes "a.prf" ∷ codes "--rules=r" ∷ codes "--hosts=t" ∷ [])
    ≡ Some imported
unfolding computed
an_import_of_files_beside_rules = refl

an_import_of_a_bundle : asked (codes "import" ∷ []) ≡ Some imported
unfolding computed
an_import_of_a_bundle = refl

an_import_of_rules_alone : asked (codes "import" ∷ codes "--rules=r" ∷ []) ≡ None
unfolding computed
an_import_of_rules_alone = refl

an_import_is_always_for_unison : asked (codes "import" ∷ codes "--unison" ∷ []) ≡ None
unfolding computed
an_import_is_always_for_unison = refl

an_import_has_no_state :
    asked (codes "import" ∷ codes "a.prf" ∷ codes "--state=s" ∷ []) ≡ None
unfolding computed
an_import_has_no_state = refl

a_plan_of_a_folder : asked (codes "plan" ∷ codes "dir" ∷ []) ≡ Some planned
unfolding computed
a_plan_of_a_folder = refl

a_plan_of_files_beside_rules :
    asked (codes "plan" ∷ codes "a.prf" ∷ codes "--rules=r" ∷ codes "--hosts=t" ∷ [])
    ≡ Some planned
unfolding computed
a_plan_of_files_beside_rules = refl

a_plan_of_rules_alone : asked (codes "plan" ∷ codes "--rules=r" ∷ []) ≡ None
unfolding computed
a_plan_of_rules_alone = refl

a_plan_is_always_for_unison : asked (codes "plan" ∷ codes "--unison" ∷ []) ≡ None
unfolding computed
a_plan_is_always_for_unison = refl

a_plan_has_no_state : asked (codes "plan" ∷ codes "a.prf" ∷ codes "--state=s" ∷ []) ≡ None
unfolding computed
a_plan_has_no_state = refl

lines_that_mend : asked (codes "mend" ∷ []) ≡ Some (mended Plain false)
unfolding computed
lines_that_mend = refl

a_mended_bundle_for_unison :
    asked (codes "mend" ∷ codes "--bundle" ∷ codes "--unison" ∷ codes "dir" ∷ [])
    ≡ Some (mended Unison true)
unfolding computed
a_mended_bundle_for_unison = refl

clashes_make_no_bundle : asked (codes "clashes" ∷ codes "--bundle" ∷ []) ≡ None
unfolding computed
clashes_make_no_bundle = refl

a_graph_for_unison :
    asked (codes "clashes" ∷ codes "--unison" ∷ codes "--dot" ∷ []) ≡ Some (about (Graph Unison))
unfolding computed
a_graph_for_unison = refl

clashes_for_unison :
    asked (codes "clashes" ∷ codes "--unison" ∷ []) ≡ Some (about (Clashes Unison))
unfolding computed
clashes_for_unison = refl

rounds_for_unison : asked (codes "rounds" ∷ codes "--unison" ∷ []) ≡ Some (about (Rounds Unison))
unfolding computed
rounds_for_unison = refl

rounds_beside_profiles_that_run_alone :
    asked (codes "rounds" ∷ codes "--unison" ∷ codes "--alone" ∷ codes "dir" ∷ [])
    ≡ Some rounds_alone
unfolding computed
rounds_beside_profiles_that_run_alone = refl

plain_rounds_leave_no_profile_alone :
    asked (codes "rounds" ∷ codes "--alone" ∷ codes "a.prf" ∷ []) ≡ None
unfolding computed
plain_rounds_leave_no_profile_alone = refl

clashes_leave_no_profile_alone :
    asked (codes "clashes" ∷ codes "--unison" ∷ codes "--alone" ∷ []) ≡ None
unfolding computed
clashes_leave_no_profile_alone = refl

reach_for_unison :
    asked (codes "reach" ∷ codes "--unison" ∷ codes "p" ∷ codes "a" ∷ [])
    ≡ Some (reach Unison (codes "p") (codes "a"))
unfolding computed
reach_for_unison = refl

a_profile_of_that_name :
    asked (codes "reach" ∷ codes "--" ∷ codes "--unison" ∷ codes "a" ∷ [])
    ≡ Some (reach Plain (codes "--unison") (codes "a"))
unfolding computed
a_profile_of_that_name = refl

a_run_for_unison : asked (codes "run" ∷ codes "--unison" ∷ []) ≡ None
unfolding computed
a_run_for_unison = refl

rounds_run_for_unison : asked (codes "run" ∷ codes "--rounds" ∷ codes "--unison" ∷ []) ≡ None
unfolding computed
rounds_run_for_unison = refl

certificates_for_unison : asked (codes "certify" ∷ codes "--unison" ∷ []) ≡ None
unfolding computed
certificates_for_unison = refl

verified_for_unison : asked (codes "verify" ∷ codes "--unison" ∷ []) ≡ None
unfolding computed
verified_for_unison = refl

unison_has_a_command : asked (codes "--unison" ∷ []) ≡ None
unfolding computed
unison_has_a_command = refl

a_strict_check : asked (codes "check" ∷ codes "--strict" ∷ []) ≡ Some (about (Check Plain))
unfolding computed
a_strict_check = refl

the_check_is_strict : is_strict_of (codes "hubsync" ∷ codes "check" ∷ codes "--strict" ∷ []) ≡ true
unfolding computed
the_check_is_strict = refl

the_check_is_not_strict : is_strict_of (codes "hubsync" ∷ codes "check" ∷ codes "a.prf" ∷ []) ≡ false
unfolding computed
the_check_is_not_strict = refl

no_command_is_not_strict : is_strict_of (codes "hubsync" ∷ []) ≡ false
unfolding computed
no_command_is_not_strict = refl

a_verbose_check :
    asked (codes "check" ∷ codes "--unison" ∷ codes "--verbose" ∷ []) ≡ Some (about (Check Unison))
unfolding computed
a_verbose_check = refl

a_run_is_not_verbose : asked (codes "run" ∷ codes "--verbose" ∷ []) ≡ None
unfolding computed
a_run_is_not_verbose = refl

strictness_has_a_command : asked (codes "--strict" ∷ []) ≡ None
unfolding computed
strictness_has_a_command = refl

reach_is_not_strict :
    asked (codes "reach" ∷ codes "p" ∷ codes "a" ∷ codes "--strict" ∷ []) ≡ None
unfolding computed
reach_is_not_strict = refl

reach_names_no_files :
    asked (codes "reach" ∷ codes "p" ∷ codes "a" ∷ codes "--rules" ∷ codes "r" ∷ []) ≡ None
unfolding computed
reach_names_no_files = refl

no_command_names_no_files : named [] ≡ no_names
unfolding computed
no_command_names_no_files = refl

operands_in_their_order :
    named (codes "check" ∷ codes "b.prf" ∷ codes "--rules" ∷ codes "r" ∷ codes "a.prf" ∷ [])
    ≡ record {
      profiles = codes "b.prf" ∷ codes "a.prf" ∷ [];
      rules = Some (codes "r");
      state = None;
      certificates = None;
      hosts = None;
    }
unfolding computed
operands_in_their_order = refl

the_check_has_no_other_operands : asked (codes "check" ∷ codes "a" ∷ []) ≡ None
unfolding computed
the_check_has_no_other_operands = refl

a_run_has_so_many_workers : asked (codes "run" ∷ []) ≡ Some (about (Run DEFAULT_WORKERS))
unfolding computed
a_run_has_so_many_workers = refl

a_run_by_none : asked (codes "run" ∷ codes "--workers" ∷ codes "0" ∷ []) ≡ Some (about (Run 0))
unfolding computed
a_run_by_none = refl

a_run_by_the_most : asked (codes "run" ∷ codes "--workers=255" ∷ []) ≡ Some (about (Run 255))
unfolding computed
a_run_by_the_most = refl

a_number_may_begin_with_zeros :
    asked (codes "run" ∷ codes "--workers" ∷ codes "017" ∷ []) ≡ Some (about (Run 17))
unfolding computed
a_number_may_begin_with_zeros = refl

a_number_may_have_a_plus :
    asked (codes "run" ∷ codes "--workers" ∷ codes "+3" ∷ []) ≡ Some (about (Run 3))
unfolding computed
a_number_may_have_a_plus = refl

more_than_a_byte : asked (codes "run" ∷ codes "--workers" ∷ codes "256" ∷ []) ≡ None
unfolding computed
more_than_a_byte = refl

fewer_than_none : asked (codes "run" ∷ codes "--workers" ∷ codes "-1" ∷ []) ≡ None
unfolding computed
fewer_than_none = refl

fewer_than_none_behind_an_equals_sign : asked (codes "run" ∷ codes "--workers=-1" ∷ []) ≡ None
unfolding computed
fewer_than_none_behind_an_equals_sign = refl

an_empty_number : asked (codes "run" ∷ codes "--workers=" ∷ []) ≡ None
unfolding computed
an_empty_number = refl

an_empty_word_for_a_number : asked (codes "run" ∷ codes "--workers" ∷ [] ∷ []) ≡ None
unfolding computed
an_empty_word_for_a_number = refl

no_number : asked (codes "run" ∷ codes "--workers" ∷ codes "x" ∷ []) ≡ None
unfolding computed
no_number = refl

a_missing_number : asked (codes "run" ∷ codes "--workers" ∷ []) ≡ None
unfolding computed
a_missing_number = refl

two_numbers : asked (codes "run" ∷ codes "--workers=1" ∷ codes "--workers=1" ∷ []) ≡ None
unfolding computed
two_numbers = refl

workers_without_a_run : asked (codes "--workers" ∷ codes "2" ∷ []) ≡ None
unfolding computed
workers_without_a_run = refl

a_run_by_rounds :
    asked (codes "run" ∷ codes "--rounds" ∷ []) ≡ Some (about (RunByRounds DEFAULT_WORKERS))
unfolding computed
a_run_by_rounds = refl

a_run_by_rounds_and_workers :
    asked (codes "run" ∷ codes "--rounds" ∷ codes "--workers" ∷ codes "3" ∷ [])
    ≡ Some (about (RunByRounds 3))
unfolding computed
a_run_by_rounds_and_workers = refl

workers_and_then_rounds :
    asked (codes "run" ∷ codes "--workers=0" ∷ codes "--rounds" ∷ []) ≡ Some (about (RunByRounds 0))
unfolding computed
workers_and_then_rounds = refl

rounds_have_no_number : asked (codes "run" ∷ codes "--rounds=1" ∷ []) ≡ None
unfolding computed
rounds_have_no_number = refl

a_run_in_order :
    asked (codes "run" ∷ codes "--in-order" ∷ []) ≡ Some (about (RunInOrder DEFAULT_WORKERS))
unfolding computed
a_run_in_order = refl

a_run_in_order_and_workers :
    asked (codes "run" ∷ codes "--workers=3" ∷ codes "--in-order" ∷ [])
    ≡ Some (about (RunInOrder 3))
unfolding computed
a_run_in_order_and_workers = refl

a_run_in_two_ways : asked (codes "run" ∷ codes "--rounds" ∷ codes "--in-order" ∷ []) ≡ None
unfolding computed
a_run_in_two_ways = refl

a_check_in_order : asked (codes "check" ∷ codes "--in-order" ∷ []) ≡ None
unfolding computed
a_check_in_order = refl

an_unknown_command : asked (codes "go" ∷ []) ≡ None
unfolding computed
an_unknown_command = refl

an_unknown_flag : asked (codes "-x" ∷ []) ≡ None
unfolding computed
an_unknown_flag = refl

help_is_no_check : asked (codes "--help" ∷ []) ≡ None
unfolding computed
help_is_no_check = refl

the_version_asks_for_nothing : asked (codes "--version" ∷ []) ≡ None
unfolding computed
the_version_asks_for_nothing = refl
