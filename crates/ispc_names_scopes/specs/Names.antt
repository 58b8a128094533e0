-- Names and calls of the program, as the definitions have them.
use Rattle.std.specs.Prelude.{Option, Some, None}
use Rattle.gang_model.specs.Types.LibraryTable.{StatementCall, Asserts, PackedStores, PackedLoads}
use Rattle.ispc_names_scopes.specs.declared.library.StatementCall.{StatementCall as Call}
use Rattle.ispc_names_scopes.specs.declared.library.StatementCall.TheVariants as call

-- a statement call
abbrev pub call_view : Call → StatementCall
call_view call.Assert = Asserts
call_view call.PackedStore = PackedStores
call_view call.PackedLoad = PackedLoads

abbrev pub statement_call_view : Option Call → Option StatementCall
statement_call_view None = None
statement_call_view (Some c) = Some (call_view c)
