-- What the code of an expression does, on any machine that has room for it.
use Rattle.std.specs.Prelude.{◌≡◌, ℕ, suc, ◌≤◌, List, [], ◌∷◌, Result, Ok, Err}
use Rattle.gang_types.specs.Lanes.{Lanes}
use Rattle.gang_model.specs.Running.Lanes.{Fault}
use Rattle.gang_model.specs.Running.State.{State}
use Rattle.gang_model.specs.Running.Value.{value}
use Rattle.typed_tree.specs.declared.expressions.Expr.{Expr}
use Rattle.typed_tree.specs.Views.{expr_view}
use Rattle.expression_instructions.specs.declared.code.Instruction.{Instruction}
use Rattle.expression_runs.specs.Room.{depth, nesting}
use Rattle.expression_runs.specs.Machine.{Outcome, Done, Faulted, exec}

-- a run with a value is done with that one vector and the mask; a run with a fault has it
abbrev pub ended : Lanes → Result (List ℕ) Fault → Outcome
ended lanes (Ok v) = Done (v ∷ []) (lanes ∷ [])
ended lanes (Err f) = Faulted f

-- the code computes the expression, whatever the lanes and the state
pub record Computes (e : Expr) (code : List Instruction) : Type 0 where
  pub run : (room nested : ℕ) (lanes : Lanes) (state : State) → depth (expr_view e) ≤ room → suc (nesting (expr_view e)) ≤ nested
      → exec room nested state code 0 [] (lanes ∷ []) ≡ ended lanes (value (expr_view e) lanes state)
