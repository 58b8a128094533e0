-- The arguments of library calls, without where they lie in memory.
use Rattle.std.specs.Prelude.{List, [], ◌∷◌, Option, Some, None, Vec, map}
use Rattle.std.specs.Global.{Global}
use Rattle.gang_types.specs.declared.places.Place.{Place}
use Rattle.gang_model.specs.Types.Conversions as model
use Rattle.type_check_values.specs.Views.{typed_view}
use Rattle.type_check_library.specs.declared.arguments.Argument.{Argument}

abbrev pub argument_view : Argument → Place × model.Typed
argument_view a = (a.place, typed_view a.value)

-- one argument, if it is a value
abbrev pub option_argument_view : Option Argument → Option (List (Place × model.Typed))
option_argument_view None = None
option_argument_view (Some a) = Some (argument_view a ∷ [])

-- the arguments, if all are values
abbrev pub option_arguments_view : Option (Vec Argument Global) → Option (List (Place × model.Typed))
option_arguments_view None = None
option_arguments_view (Some values) = Some (map argument_view values.items)
