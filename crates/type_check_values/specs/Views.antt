-- Expressions with their types and rates, without where they lie in memory.
use Rattle.gang_model.specs.Types.Conversions as model
use Rattle.typed_tree.specs.Views.{boxed_view}
use Rattle.type_check_values.specs.declared.typed.Typed.{Typed}

abbrev pub typed_view : Typed → model.Typed
typed_view e = model.typed (boxed_view e.expr) e.value_type e.rate
