use Rattle.std.proofs.lemmas.Result.{IfOk-weaker}
use Rattle.desk_options.proofs.Building.{some_are, some_widths, with_one}
use Rattle.desk_options.proofs.commands.port_command.Goals as goal

pub returns : goal.returns
returns c =
    let source = with_one _ c.wanted.result _ _ _ _ _ c.in_ok-arg.ensures c.named.ensures c.help.ensures c.wanted.ensures in
    let to = with_one _ c.option.result _ _ _ _ _ c.in_ok-arg-2.ensures source c.help-2.ensures c.option.ensures in
    IfOk-weaker c.arg-3.result _ _ (λ parser added. (some_widths, some_are, with_one _ c.flag.result _ _ _ _ _ added to c.help-3.ensures c.flag.ensures))
    c.arg-3.ensures
