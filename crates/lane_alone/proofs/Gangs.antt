-- Each state of a run has sets of lanes of its gang's width, from the start and after each event.
use Rattle.std.proofs.Common.{◌≡◌, ℕ, zero, suc, List, [], ◌∷◌, length, arith}
use Rattle.std.specs.Prelude.{All}
use Rattle.gang_model.specs.Types.Tree.{Program}
use Rattle.gang_model.specs.Running.State.{Task, Frame}
use Rattle.gang_model.specs.Running.SeparateInstances.{IsFrameOfGang}
use Rattle.gang_model.specs.Debugger.Events.{Event, Row, start, after}
use Rattle.gang_model.proofs.StateLanes.{TasksSized, FramesSized, sized-start, sized-after}

tasks_wide : (w : ℕ) (ts : List Task) → TasksSized w ts → All (λ t. length t.lanes ≡ w) ts
tasks_wide w [] h k d less = absurd (omega (arith, less))
tasks_wide w (t ∷ ts) h zero d less = h.0
tasks_wide w (t ∷ ts) h (suc k) d less = tasks_wide w ts h.1 k d (omega (arith, less))

pub frames_wide : (w : ℕ) (frames : List Frame) → FramesSized w frames → All (IsFrameOfGang w) frames
frames_wide w [] h k d less = absurd (omega (arith, less))
frames_wide w (frame ∷ frames) h zero d less = (h.0.call, tasks_wide w frame.tasks h.0.tasks)
frames_wide w (frame ∷ frames) h (suc k) d less = frames_wide w frames h.1 k d (omega (arith, less))

pub gang_frames : (p : Program) (entry : ℕ) (rows : List Row) (w : ℕ) (events : List Event) → All (IsFrameOfGang w) (after p (start p entry rows w) events).frames
gang_frames p entry rows w events = frames_wide w _ (sized-after w p (start p entry rows w) events (sized-start w p entry rows))
