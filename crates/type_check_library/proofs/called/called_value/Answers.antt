use Rattle.std.proofs.Common.{◌∙◌, sym}
use Rattle.gang_model.specs.Types.LibraryTable.{library_table}
use Rattle.type_check_library.specs.Calls.{call_view}
use Rattle.type_check_library.proofs.NamedCalls.{count_of_found}
use Rattle.type_check_library.proofs.called.called_value.Goals as goal

pub call_value-requires : goal.call_value-requires
call_value-requires c =
    record { count = sym (count_of_found c.args.name.now c.len.result library_table (call_view c.in-Some-library_call.call) (sym c.in-Some-library_call.ensures) ∙ c.len.ensures) }
