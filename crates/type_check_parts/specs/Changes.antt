-- The statements that change a variable, and what their right sides are typed for.
use Rattle.std.specs.Prelude.{ℕ, Result, Ok, Err}
use Rattle.gang_types.specs.declared.types.IntType.{IntType}
use Rattle.gang_types.specs.declared.types.IntType.TheVariants as t
use Rattle.gang_types.specs.declared.types.Rate.{Rate}
use Rattle.gang_types.specs.declared.types.Rate.TheVariants.{Varying}
use Rattle.gang_types.specs.declared.operators.BinaryOp.{BinaryOp}
use Rattle.gang_types.specs.declared.places.VarId.TheVariants.{Local}
use Rattle.gang_model.specs.Types.Tree.{Stmt}
use Rattle.gang_model.specs.Types.Typing.{Scope}
use Rattle.gang_model.specs.Source.Parsed.{ParsedExpr, ParsedTarget}
use Rattle.gang_model.specs.Source.Judged.{Judged, Sound, both, ◌>>=◌}
use Rattle.gang_model.specs.Types.Statements.{target_of, operand_for, rate_of, changed, number_one}
use Rattle.source_answers.specs.declared.fault.SourceFault.{SourceFault}
use Rattle.typed_tree.specs.declared.expressions.Var.{Var}
use Rattle.type_check_parts.specs.declared.targets.Aimed.{Aimed}

-- the type that a value for a target gets and the rate that it may have
abbrev pub wanted : Result Aimed SourceFault → IntType × Rate
wanted (Ok a) = (a.value_type, a.rate)
wanted (Err fault) = (t.Int32, Varying)

-- the variable that a call's result is given to
abbrev pub wanted_variable : Result Var SourceFault → Var
wanted_variable (Ok v) = v
wanted_variable (Err fault) = record { id = Local 0; value_type = t.Int32; rate = Varying }

-- `target op= e`
abbrev pub change_of : Scope → ParsedTarget → BinaryOp → ParsedExpr → ℕ → Judged Stmt
change_of scope target op e step =
    both (target_of scope target.at target.name target.index) (operand_for (rate_of (target_of scope target.at target.name target.index)) e scope)
    >>= (λ parts. Sound (changed op step parts.0 parts.1))

-- `++` and `--`
abbrev pub increment_of : Scope → ParsedTarget → BinaryOp → ℕ → Judged Stmt
increment_of scope target op step = target_of scope target.at target.name target.index >>= (λ a. Sound (changed op step a number_one))
