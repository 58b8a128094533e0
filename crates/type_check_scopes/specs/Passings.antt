-- Arguments, without where they lie in memory.
use Rattle.std.specs.Prelude.{option_map}
use Rattle.gang_model.specs.Types.Typing as typing
use Rattle.typed_tree.specs.Views.{boxed_view}
use Rattle.type_check_values.specs.Views.{typed_view}
use Rattle.type_check_scopes.specs.declared.passings.Passing.{Passing}
use Rattle.type_check_scopes.specs.declared.passings.Passing.TheVariants.{Scalar, View, Reference}
use Rattle.type_check_scopes.specs.Entries.{entry_view}

abbrev pub passing_view : Passing → typing.Passing
passing_view (Scalar place value) = typing.Scalar place (typed_view value)
passing_view (View place entry from) = typing.View place (entry_view entry) (option_map boxed_view from)
passing_view (Reference place entry) = typing.Reference place (entry_view entry)
