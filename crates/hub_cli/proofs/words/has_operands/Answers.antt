use Rattle.std.proofs.Common.{◌==◌, ◌∙◌, ap, codes, not, sym}
use Rattle.std.proofs.lemmas.List.{length-map}
use Rattle.clap.proofs.WalkLemmas.{raw_values-rows}
use Rattle.clap.specs.Words.{found_of}
use Rattle.hub_cli.specs.Words.{has_operands}
use Rattle.hub_cli.proofs.words.has_operands.Goals as goal

pub returns-in-Some : goal.returns-in-Some
returns-in-Some c =
    ap not c.is_empty.ensures ∙ ap (λ n. not (n == 0)) (sym (length-map c.in-Some.files.now (λ file. file.now)))
    ∙ ap has_operands (c.in-Some.ensures ∙ raw_values-rows (found_of c.args.found.now) (codes "files"))

pub returns-in-None : goal.returns-in-None
returns-in-None c = ap has_operands (c.in-None.ensures ∙ raw_values-rows (found_of c.args.found.now) (codes "files"))
