-- The arguments of calls, each judged by itself.
use Rattle.std.specs.Prelude.{List, [], ◌∷◌, ◌++◌, map, Vec}
use Rattle.std.specs.Global.{Global}
use Rattle.gang_model.specs.declared.refusals.RefusalNumber.TheVariants.{S7, S8}
use Rattle.gang_model.specs.declared.refusals.SourceRefusal.{SourceRefusal}
use Rattle.gang_types.specs.declared.places.Place.{Place}
use Rattle.gang_types.specs.Values.{is_bool}
use Rattle.gang_model.specs.Types.Conversions.{Typed, is_varying}
use Rattle.gang_model.specs.Source.Judged.{Judged, Sound, both, ◌>>=◌, fault_if}
use Rattle.gang_model.specs.Source.Parsed.{ParsedExpr}
use Rattle.gang_model.specs.Types.Typing as typing
use Rattle.source_tree.specs.Expressions.{ParsedArg, OfValue, OfPart, OfPartFrom}
use Rattle.type_check_scopes.specs.declared.passings.Passing.{Passing}
use Rattle.type_check_scopes.specs.Passings.{passing_view}

-- the value of an index of `&a[e]`
abbrev pub view_indexed : ParsedExpr → Judged Typed → Judged Typed
view_indexed index value = value >>= typing.view_index index

-- an array from an index on
abbrev pub view_of : Place → Judged typing.Entry → Judged Typed → Judged typing.Passing
view_of p array index = do
  parts ← both array index
  Sound (typing.view_from p parts)

-- one argument
abbrev pub argument : ParsedArg → typing.Scope → Judged typing.Passing
argument (OfValue e) scope = typing.passed e (typing.array_of (typing.named_entry e scope)) (typing.expression e scope)
argument (OfPart p name) scope = typing.referred p (typing.or_built_in name (typing.entry_of scope name))
argument (OfPartFrom p name e) scope = view_of p (typing.viewed p (typing.entry_of scope name)) (view_indexed e (typing.expression e scope))

-- the faults of the index of `&a[e]`
abbrev pub index_faults : ParsedExpr → Typed → List SourceRefusal
index_faults index i = fault_if (is_varying i.rate) S7 (typing.first_of index) ++ fault_if (is_bool i.type) S8 (typing.first_of index)

-- one argument after others
abbrev pub followed : Judged (List typing.Passing) → Judged typing.Passing → Judged (List typing.Passing)
followed so_far last = do
  parts ← both so_far last
  Sound (parts.0 ++ parts.1 ∷ [])

abbrev pub passings_view : Vec Passing Global → List typing.Passing
passings_view given = map passing_view given.items
