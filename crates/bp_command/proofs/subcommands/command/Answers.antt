use Rattle.std.proofs.lemmas.Result.{IfOk-weaker}
use Rattle.bp_command.specs.Commands.{bare_app, format_app, run_app, check_app, play_app, export_app}
use Rattle.bp_command.proofs.Commands.{add_command}
use Rattle.bp_command.proofs.subcommands.command.Goals as goal

pub returns : goal.returns
returns c =
    let one = add_command bare_app format_app _ _ _ c.bare.ensures c.in_ok-format_command.ensures c.in_ok-subcommand.ensures in
    let two = add_command _ run_app _ _ _ one c.in_ok-run_command.ensures c.in_ok-subcommand-2.ensures in
    let three = add_command _ check_app _ _ _ two c.in_ok-check_command.ensures c.in_ok-subcommand-3.ensures in
    let four = add_command _ play_app _ _ _ three c.in_ok-play_command.ensures c.in_ok-subcommand-4.ensures in
    IfOk-weaker c.subcommand-5.result _ _ (λ m h. add_command _ export_app _ _ _ four c.in_ok-export_command.ensures h) c.subcommand-5.ensures
