use Rattle.std.proofs.Common.{ap, sym, ◌∙◌, map}
use Rattle.gang_model.specs.Debugger.Debugger.{least_from}
use Rattle.ispc_names_table.specs.declared.table.Standing.{Standing}
use Rattle.typed_tree.specs.Views.{variable_view}
use Rattle.function_lines.proofs.StepLines.{lines_same}
use Rattle.function_lines.proofs.lines.first_line.Goals as goal

pub returns : goal.returns
returns c =
    let f = c.args.function.now in
    c.least_line.ensures
    ∙ ap (λ ss. least_from 0 (map (λ (s : Standing). s.place.line) ss)) c.deref.ensures.value
    ∙ sym (ap (least_from 0) (lines_same (map variable_view f.variables.items) f.scopes.declarations.items f.scopes.standings.items))
