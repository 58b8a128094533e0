use Rattle.std.proofs.Common.{◌∙◌, ap}
use Rattle.std.proofs.lemmas.Result.{IfOk-weaker}
use Rattle.clap.specs.Simple.{App}
use Rattle.desk_options.specs.Commands.{bound_rules, page_rules, program_rules, with_rules}
use Rattle.desk_options.proofs.commands.page_command.Goals as goal

pub returns : goal.returns
returns c =
    let made = c.in_ok-with_program.ensures in
    let run = made.2 ∙ ap (λ (a : App). with_rules a (program_rules made.0)) (c.in_ok-with_bound.ensures ∙ ap (λ (a : App). with_rules a bound_rules) c.named.ensures) in
    IfOk-weaker c.with_page.result _ _ (λ parser drawn. (made.0, made.1, drawn ∙ ap (λ (a : App). with_rules a page_rules) run)) c.with_page.ensures
