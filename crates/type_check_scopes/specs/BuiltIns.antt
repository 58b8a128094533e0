-- The values of built-in names, all int32, without where they lie in memory.
use Rattle.std.specs.Prelude.{Option, Some, None}
use Rattle.gang_types.specs.declared.places.Place.{Place}
use Rattle.gang_types.specs.declared.types.IntType.TheVariants.{Int32}
use Rattle.gang_model.specs.declared.refusals.RefusalNumber.TheVariants.{S5}
use Rattle.gang_model.specs.Source.Judged.{Judged, Sound, refused}
use Rattle.gang_model.specs.Types.Conversions as model
use Rattle.typed_tree.specs.Views.{expr_view}
use Rattle.type_check_scopes.specs.declared.entries.BuiltIn.{BuiltIn}

-- the value of a built-in name with its type, S5 at a name that is none
abbrev pub built_in_value_view : Place → Option BuiltIn → Judged model.Typed
built_in_value_view place None = refused S5 place
built_in_value_view place (Some e) = Sound (model.typed (expr_view e.expr) Int32 e.rate)
