-- `switch`: its lanes go on where their segments begin, so that the words show the masked state after it.
use Rattle.std.proofs.Common.{◌≡◌, ap, ℕ, List, [], ◌∷◌}
use Rattle.std.specs.Prelude.{Some, Ok, Err}
use Rattle.gang_model.specs.Types.Tree.{Expr, StepNumber, Stmt, Function, Program}
use Rattle.gang_model.specs.Running.Lanes.{Fault, ◌>>=◌, at}
use Rattle.gang_model.specs.Running.Value.{value}
use Rattle.mask_states.specs.Points.{Choose}
use Rattle.mask_states.specs.Masked.{Masked, sent_in, closed}
use Rattle.mask_states.specs.MaskedStep.{segment_of, chosen}
use Rattle.machine_states.specs.Variables.{Variables}
use Rattle.machine_states.specs.Regions.{Regions}
use Rattle.machine_states.specs.Shows.{Shows}
use Rattle.machine_states.specs.Effects.{sent_on}
use Rattle.machine_states.specs.Steps.{IsNext, waiting_in, GoesTo, FailsWith}
use Rattle.machine_states.proofs.TopFrame.{point_goes, point_fails}

module _ (p : Program) (variables : Variables) (w : ℕ) (regions : Regions) (masked : Masked) (shows : Shows p variables w regions masked) (i level n : ℕ) (f : Function) (number : StepNumber)
    (e : Expr) (segments : Stmt) (entries : List StepNumber) (target : StepNumber) (next : IsNext p w regions i level n f number (Some (Choose e segments entries target))) where
  -- where a lane goes on, by the selector's values
  abbrev pub chosen_by : List ℕ → ℕ → StepNumber
  chosen_by x k = chosen entries target (segment_of segments (at x k))

  pub chooses : (x : List ℕ) → value e (waiting_in regions i level number) masked.state ≡ Ok x
      → GoesTo p variables w masked (sent_on i level (waiting_in regions i level number) (chosen_by x) regions)
  chooses x is =
      point_goes p variables w regions masked shows i level n f number (Choose e segments entries target) next (chosen_by x) masked.state regions
      (λ top below. ap (λ r. r >>= (λ x. Ok (record { state = masked.state; levels = closed (sent_in (waiting_in regions i level number) (chosen_by x) top ∷ below) ∷ [] }))) is)
      shows next.depth

  -- the selector's fault is the step's
  pub choice_fails : (fault : Fault) → value e (waiting_in regions i level number) masked.state ≡ Err fault → FailsWith p masked fault
  choice_fails fault is =
      point_fails p variables w regions masked shows i level n f number (Choose e segments entries target) next fault
      (λ top below. ap (λ r. r >>= (λ x. Ok (record { state = masked.state; levels = closed (sent_in (waiting_in regions i level number) (chosen_by x) top ∷ below) ∷ [] }))) is)
