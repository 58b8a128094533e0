-- What a written expression means at a step of a program.
use Rattle.std.specs.Prelude.{◌≡◌, false, List, ◌++◌, map}
use Rattle.gang_types.specs.declared.places.Spot.{Spot}
use Rattle.gang_types.specs.declared.types.IntType.{IntType}
use Rattle.gang_types.specs.declared.types.Rate.{Rate}
use Rattle.gang_model.specs.Source.Judged.{Sound}
use Rattle.gang_model.specs.Source.Parsed.{ParsedExpr}
use Rattle.gang_model.specs.Types.Conversions.{typed}
use Rattle.gang_model.specs.Types.Tree.{Program, Variable}
use Rattle.gang_model.specs.Types.Typing.{Entry, Scope, expression}
use Rattle.gang_model.specs.Debugger.Positions.{scope_of, standing_at}
use Rattle.typed_tree.specs.declared.expressions.Expr.{Expr}
use Rattle.typed_tree.specs.Views.{expr_view}
use Rattle.expression_instructions.specs.declared.code.Instruction.{Instruction}
use Rattle.expression_runs.specs.Correct.{Computes}
use Rattle.expression_runs.specs.Room.{HasRoom}

-- a variable of a program as it is declared; none of them is `void`
abbrev pub variable_entry : Variable → Entry
variable_entry v = record { variable = v; is_void = false }

-- what a name finds at a step: the variables in scope there, and then those of the file
abbrev pub entries_at : Program → Spot → Scope
entries_at p spot = map variable_entry (scope_of (standing_at p spot) ++ map (λ g. g.variable) p.globals)

-- in this scope the expression has a value of this type and rate, and the code computes it
pub record Means (written : ParsedExpr) (scope : Scope) (type : IntType) (rate : Rate) (code : List Instruction) : Type 0 where
  pub tree : Expr
  pub is_sound : expression written scope ≡ Sound (typed (expr_view tree) type rate)
  pub computes : Computes tree code
  pub room : HasRoom (expr_view tree)
