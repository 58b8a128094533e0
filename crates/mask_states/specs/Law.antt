-- The law: numbers in place of lists of tasks change nothing that a debugger shows, forwards, with pokes, and at faults.
use Rattle.std.specs.Prelude.{ℕ, List}
use Rattle.gang_model.specs.Types.Tree.{Program}
use Rattle.gang_model.specs.Running.State.{State}
use Rattle.gang_model.specs.Running.Step.{step}
use Rattle.gang_model.specs.Debugger.Events.{Event, Row, start, after}
use Rattle.mask_states.specs.Masked.{Masked}
use Rattle.mask_states.specs.MaskedStep.{masked_step, masked_start, masked_after}
use Rattle.mask_states.specs.Stands.{EndAlike}
use Rattle.mask_states.specs.Shown.{ShowsAlike}

-- the two states show the same, and the next step of both goes on, or fails at the same fault, or is over
abbrev pub AgreesWith : Program → ℕ → State → Masked → Type 0
AgreesWith p width state masked = ShowsAlike p state masked × EndAlike p width (step p state) (masked_step p masked)

-- whatever the entry, the inputs, the width, and the steps and pokes so far
abbrev pub RunsAlike : Program → Type 0
RunsAlike p = (entry : ℕ) (rows : List Row) (width : ℕ) (events : List Event)
    → AgreesWith p width (after p (start p entry rows width) events) (masked_after p (masked_start p entry rows width) events)
