use Rattle.std.proofs.lemmas.Result.{IfOk-weaker}
use Rattle.desk_options.proofs.Building.{some_are, some_widths, with_one}
use Rattle.desk_options.proofs.commands.explain_command.Goals as goal

pub returns : goal.returns
returns c =
    IfOk-weaker c.arg.result _ _ (λ parser added. (some_widths, some_are, with_one _ c.several.result _ _ _ _ _ added c.named.ensures c.help.ensures c.several.ensures)) c.arg.ensures
