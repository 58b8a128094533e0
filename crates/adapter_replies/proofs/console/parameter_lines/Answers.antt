use Rattle.std.proofs.Common.{◌++◌, ◌∙◌, sym, ap, map, take}
use Rattle.std.specs.Prelude.{flat_map}
use Rattle.adapter_replies.specs.Console.{parameter_line}
use Rattle.adapter_replies.specs.Variables.{variable_view}
use Rattle.adapter_replies.proofs.ParameterLines.{lines_next}
use Rattle.adapter_replies.proofs.console.parameter_lines.Goals as goal

pub loop-variable-preserved : goal.loop-variable-preserved
loop-variable-preserved c =
    let vs = c.args.variables.now in
    let i = c.loop-variable.variable-index in
    c.in_ok-push_str.ensures.bytes
    ∙ ap (λ old. old ++ c.as_str.result.now) c.loop-variable.invariant
    ∙ ap (λ line. flat_map parameter_line (map variable_view (take i vs)) ++ line) (c.as_str.ensures.value ∙ c.in_ok-line.ensures)
    ∙ sym (lines_next vs i c.variable-item.result c.loop-variable-test.true c.variable-item.is)
