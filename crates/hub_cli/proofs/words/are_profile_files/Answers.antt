use Rattle.std.proofs.Common.{◌∙◌, ap, codes, sym}
use Rattle.std.proofs.lemmas.List.Folds.{list_all-map}
use Rattle.clap.proofs.WalkLemmas.{raw_values-rows}
use Rattle.clap.specs.Words.{found_of}
use Rattle.hub_cli.specs.Words.{are_profile_files, is_profile_file}
use Rattle.hub_cli.proofs.words.are_profile_files.Goals as goal

pub returns-in-Some : goal.returns-in-Some
returns-in-Some c =
    c.are_all_profile_files.ensures ∙ sym (list_all-map is_profile_file (λ file. file.now) c.in-Some.files.now)
    ∙ ap are_profile_files (c.in-Some.ensures ∙ raw_values-rows (found_of c.args.found.now) (codes "files"))

pub returns-in-None : goal.returns-in-None
returns-in-None c = ap are_profile_files (c.in-None.ensures ∙ raw_values-rows (found_of c.args.found.now) (codes "files"))
