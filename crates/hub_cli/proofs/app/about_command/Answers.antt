use Rattle.std.proofs.Common.{◌∙◌, ap, ap₂, codes}
use Rattle.std.proofs.lemmas.Result.{IfOk-weaker}
use Rattle.clap.specs.Words.{App, with_subcommand}
use Rattle.hub_cli.specs.Words.{unison_app}
use Rattle.hub_cli.proofs.app.about_command.Goals as goal

pub returns : goal.returns
returns c =
    let with_clashes = c.in_ok-top-2.ensures ∙ ap₂ with_subcommand c.in_ok-top.ensures (ap (λ (a : App). a.top) c.in_ok-clashes_command.ensures.0) in
    let with_mend = c.in_ok-top-3.ensures ∙ ap₂ with_subcommand with_clashes (ap (λ (a : App). a.top) c.in_ok-mend_command.ensures.0) in
    let with_rounds = c.in_ok-top-4.ensures ∙ ap₂ with_subcommand with_mend (ap (λ (a : App). a.top) c.in_ok-rounds_command.ensures.0) in
    let with_plan = c.in_ok-top-5.ensures ∙ ap (λ (a : App). with_subcommand a (unison_app (codes "plan")).top) with_rounds in
    IfOk-weaker c.with_unison_command-2.result _ _ (λ r h. h ∙ ap (λ (a : App). with_subcommand a (unison_app (codes "import")).top) with_plan) c.with_unison_command-2.ensures
