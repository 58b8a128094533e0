use Rattle.std.proofs.Common.{◌∙◌, ap}
use Rattle.std.proofs.lemmas.Result.{IfOk-weaker}
use Rattle.clap.specs.Simple.{App}
use Rattle.desk_options.specs.Commands.{debug_rules, program_rules, with_rules}
use Rattle.desk_options.proofs.commands.debug_command.Goals as goal

pub returns : goal.returns
returns c =
    let made = c.in_ok-with_program.ensures in
    let run = made.2 ∙ ap (λ (a : App). with_rules a (program_rules made.0)) c.named.ensures in
    IfOk-weaker c.with_color.result _ _ (λ parser colored. (made.0, made.1, colored ∙ ap (λ (a : App). with_rules a debug_rules) run)) c.with_color.ensures
