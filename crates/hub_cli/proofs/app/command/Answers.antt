use Rattle.std.proofs.Common.{◌∙◌, ap, ap₂}
use Rattle.std.proofs.lemmas.Result.{IfOk-weaker}
use Rattle.clap.specs.Words.{App, with_subcommand}
use Rattle.hub_cli.specs.Words.{hubsync_app}
use Rattle.hub_cli.proofs.app.command.Goals as goal

pub returns : goal.returns
unfolding hubsync_app
returns c =
    let with_reach = c.in_ok-top-2.ensures ∙ ap₂ with_subcommand c.in_ok-top.ensures (ap (λ (a : App). a.top) c.in_ok-reach_command.ensures.0) in
    IfOk-weaker c.with_command-2.result _ _ (λ r h. h ∙ ap₂ with_subcommand with_reach (ap (λ (a : App). a.top) c.in_ok-run_command.ensures.0)) c.with_command-2.ensures
