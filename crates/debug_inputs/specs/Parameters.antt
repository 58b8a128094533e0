-- Parameters among the variables of a function.
use Rattle.std.specs.Prelude.{ℕ, List, Option, Some, None, if◌then◌else◌}
use Rattle.gang_types.specs.declared.places.VarId.TheVariants.{Local}
use Rattle.gang_model.specs.Types.Resolved.{local_at}
use Rattle.gang_model.specs.Types.Tree.{Variable}

-- the variable of a number, if it is a parameter
abbrev pub parameter_at : List Variable → ℕ → Option Variable
parameter_at variables number = let v = local_at variables (Local number) in if v.is_parameter then Some v else None
