-- Calls, without where they lie in memory.
use Rattle.std.specs.Prelude.{map}
use Rattle.gang_model.specs.Types.Calls as model
use Rattle.source_tree.specs.Expressions.{args_view}
use Rattle.source_tree.specs.Tree.{function_view}
use Rattle.typed_tree.specs.Boxes.{boxed_stmt_view}
use Rattle.type_check_calls.specs.declared.context.Context.{Context}
use Rattle.type_check_calls.specs.declared.whole.WholeCall.{WholeCall}
use Rattle.type_check_calls.specs.declared.calls.Called.{Called}

abbrev pub context_view : Context → model.Context
context_view c = record { functions = map (λ f. function_view f.now) c.functions.now; result = c.result }

abbrev pub whole_call_view : WholeCall → model.WholeCall
whole_call_view c = record { at = c.place; name = c.name.now; args = args_view c.args.now }

abbrev pub called_view : Called → model.Called
called_view c = model.called (boxed_stmt_view c.stmt) c.result
