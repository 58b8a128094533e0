-- In the program of a source, the tasks of each frame stand in running order, after all events from the start.
use Rattle.std.specs.Prelude.{◌≡◌, ℕ, List, Some}
use Rattle.gang_model.specs.Types.Tree.{Program}
use Rattle.gang_model.specs.Source.Parsed.{ParsedSource}
use Rattle.gang_model.specs.Types.Resolved.{program_of}
use Rattle.gang_model.specs.Debugger.Events.{Event, Row, start, after}
use Rattle.gang_model.specs.Running.RunningOrder.{FramesInOrder}
use Rattle.gang_model.proofs.VariableLaws.{program_of-numbered}
use Rattle.gang_model.proofs.TaskOrder.{in_start, in_after}

pub run-in_order : (source : ParsedSource) (p : Program) → program_of source ≡ Some p → (entry : ℕ) (rows : List Row) (width : ℕ) (events : List Event) → FramesInOrder p (after p (start p entry rows width) events).frames
run-in_order source p is entry rows width events =
    in_after p (program_of-numbered source p is) (start p entry rows width) events (in_start p (program_of-numbered source p is) entry rows width)
