-- The state after events is a fold over them, the oldest first.
use Rattle.std.proofs.Common.{◌≡◌, refl, ap, List, [], ◌∷◌, ◌++◌}
use Rattle.gang_model.specs.Types.Tree.{Program}
use Rattle.gang_model.specs.Running.State.{State}
use Rattle.gang_model.specs.Debugger.Events.{Event, happen, after}

-- events after others happen in the state after those
pub after-append : (p : Program) (first : State) (newer older : List Event) → after p first (newer ++ older) ≡ after p (after p first older) newer
after-append p first [] older = refl
after-append p first (event ∷ newer) older = ap (happen p event) (after-append p first newer older)
