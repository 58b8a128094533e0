-- The code of an expression computes it.
use Rattle.std.proofs.Common.{◌≡◌, ℕ, List, [], ◌∷◌, Result, Ok, Err, refl, sym, ap, ◌∙◌, arith}
use Rattle.std.proofs.lemmas.List.{append-nil}
use Rattle.gang_types.specs.Lanes.{Lanes}
use Rattle.gang_model.specs.Running.Lanes.{Fault}
use Rattle.gang_model.specs.Running.State.{State}
use Rattle.gang_model.specs.Running.Value.{value}
use Rattle.typed_tree.specs.declared.expressions.Expr.{Expr}
use Rattle.typed_tree.specs.Views.{expr_view}
use Rattle.expression_code.specs.Code.{code_of}
use Rattle.expression_runs.specs.Machine.{exec}
use Rattle.expression_runs.specs.Correct.{Computes, ended}
use Rattle.expression_code.proofs.Runs.{after, on_top, lands}

ends : (room nested : ℕ) (state : State) (s : Lanes) (r : Result (List ℕ) Fault) → after r (on_top room nested state [] s [] []) ≡ ended s r
ends room nested state s (Ok v) = refl
ends room nested state s (Err f) = refl

pub computes : (e : Expr) → Computes e (code_of e)
computes e = record {
  run = λ room nested lanes state deep nests.
      sym (ap (λ c. exec room nested state c 0 [] (lanes ∷ [])) (append-nil (code_of e)))
      ∙ lands room nested state e lanes [] [] (omega arith) (omega arith) []
      ∙ ends room nested state lanes (value (expr_view e) lanes state);
}
