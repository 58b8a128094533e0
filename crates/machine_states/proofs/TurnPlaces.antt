-- The next round of a form comes where all its lanes wait for the end of its level.
use Rattle.std.proofs.Common.{◌≡◌, sym, ap, ◌∙◌, subst, ℕ, ◌<◌, ◌∷◌, length, slice_get, Some, arith}
use Rattle.gang_model.specs.Types.Tree.{StepNumber, Function, Program}
use Rattle.gang_model.specs.Running.RunningOrder.{IsNumbered}
use Rattle.mask_states.specs.Points.{Turn, points_in}
use Rattle.mask_states.specs.Masked.{Masked}
use Rattle.machine_states.specs.Variables.{Variables}
use Rattle.machine_states.specs.Declared.{FramesDeclared, AreDeclared}
use Rattle.machine_states.specs.Regions.{Regions}
use Rattle.machine_states.specs.Shows.{Shows}
use Rattle.machine_states.specs.Steps.{IsNext, end_in}
use Rattle.machine_states.proofs.TopFrame.{top_frame, top_level}
use Rattle.machine_states.proofs.TopLevels.{below_long}
use Rattle.machine_states.proofs.TurnLevels.{IsAtEnd, turn_at_end}

pub turn_last : (p : Program) (variables : Variables) (w : ℕ) (regions : Regions) (masked : Masked) (shows : Shows p variables w regions masked) (i level n : ℕ) (f : Function) (number body : StepNumber)
    → IsNext p w regions i level n f number (Some (Turn body)) → IsNumbered 0 f.body → AreDeclared variables p masked → (0 < level) × (number ≡ end_in regions i f level)
turn_last p variables w regions masked shows i level n f number body next numbered all =
    let t = top_frame p variables w regions masked shows i level n f number (Some (Turn body)) next in
    let declared = subst (λ levels. FramesDeclared variables p (t.frame ∷ t.others) levels) t.levels_are (subst (λ frames. FramesDeclared variables p frames masked.levels) t.frames_are all) in
    let is : slice_get p.functions t.frame.function ≡ Some f = ap (slice_get p.functions) t.function ∙ next.is_function in
    let here : IsAtEnd (top_level p variables w regions masked shows i level n f number (Some (Turn body)) next) t.below =
    turn_at_end variables t.frame.function f t.frame.vars numbered (top_level p variables w regions masked shows i level n f number (Some (Turn body)) next) t.below (declared.0 f is) body
    (ap (slice_get (points_in f)) t.next_is ∙ next.is_point) in
    (omega (arith, ap length here.below_are, below_long w regions i f level t.turns t.below t.top), sym t.next_is ∙ here.at_end)
