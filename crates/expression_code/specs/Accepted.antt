-- Which expressions accepted sources have.
use Rattle.std.specs.Prelude.{◌≡◌, ◌≤◌, ◌⊎◌}
use Rattle.gang_types.specs.declared.types.IntType.{IntType}
use Rattle.gang_model.specs.Types.Tree.{Expr}
use Rattle.gang_model.specs.Types.Conversions.{Typed, as_type}
use Rattle.gang_model.specs.Types.Typing.{Scope, expression}
use Rattle.gang_model.specs.Source.Parsed.{ParsedExpr}
use Rattle.gang_model.specs.Source.Spells.{weight, max_weight}
use Rattle.gang_model.specs.Source.Judged.{Sound}

-- an expression of an accepted source: what a written one of at most 256 operators, calls and indexings stands for, as it is or
-- converted to a type
pub record IsAccepted (e : Expr) : Type 0 where
  pub written : ParsedExpr
  pub scope : Scope
  pub value : Typed
  pub light : weight written ≤ max_weight
  pub is_sound : expression written scope ≡ Sound value
  pub stands : (e ≡ value.expr) ⊎ ((type : IntType) × (e ≡ as_type type value))
