-- What a call passes, argument by argument.
use Rattle.std.specs.Prelude.{ℕ, List, ◌∷◌, Option, Some, None}
use Rattle.gang_types.specs.declared.places.VarId.TheVariants.{Local}
use Rattle.gang_model.specs.Types.Tree.{Arg, Value, Array}
use Rattle.gang_model.specs.Source.Parsed.{ParsedParam}
use Rattle.gang_model.specs.Types.Conversions.{as_type}
use Rattle.gang_model.specs.Types.Signatures.{declared_type, declared_rate}
use Rattle.gang_model.specs.Types.Typing.{Passing, Scalar, View, Reference}

-- what is passed to the k-th parameter, if anything is
abbrev pub passed_arg : ℕ → Passing → ParsedParam → Option Arg
passed_arg k (Scalar p e) param =
    Some (Value (record { id = Local k; type = declared_type param.spec.value_type; rate = declared_rate param.spec.rate }) (as_type (declared_type param.spec.value_type) e))
passed_arg k (View p n from) param = Some (Array (Local k) n.variable.id from)
passed_arg k (Reference p n) param = None

-- one argument more, if it is there
abbrev pub with_arg : Option Arg → List Arg → List Arg
with_arg None args = args
with_arg (Some a) args = a ∷ args
