-- the parameters so far, and those from this number on
use Rattle.std.proofs.Common.{◌≡◌, ◌++◌, length, map, Some}
use Rattle.std.specs.Prelude.{slice_get}
use Rattle.gang_model.specs.Texts.InputText.{parameters_of}
use Rattle.ispc_names_table.specs.Scopes.{in_scope}
use Rattle.ispc_names_table.proofs.ListedNumbers.{is_listed, name_at}
use Rattle.typed_tree.specs.Views.{function_view, variable_view}
use Rattle.machine_names.proofs.Listed.{innermost_at}
use Rattle.debug_inputs.proofs.ListedParameters.{parameters_from}
use Rattle.debug_inputs.proofs.parameters.parameters_of.Given as goal

abbrev pub invariant-loop-number : goal.invariant-loop-number
invariant-loop-number l =
    let ds = l.function.scopes.declarations.items in
    let test = is_listed (name_at ds) (in_scope ds (innermost_at (slice_get l.function.scopes.standings.items l.closing))) in
    map (λ v. variable_view v.now) l.parameters.items ++ parameters_from (map variable_view l.function.variables.items) test l.number (length ds)
    ≡ parameters_of (Some (function_view l.function))
