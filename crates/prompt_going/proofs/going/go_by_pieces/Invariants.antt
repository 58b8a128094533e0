-- the stops of so many pieces were passed
use Rattle.std.proofs.Common.{◌*◌}
use Rattle.gang_model.specs.Debugger.Debugger.{Debugger, Setting}
use Rattle.debug_session.specs.Sessions.{StandsFor}
use Rattle.conditional_stops.specs.Going.{Passes, command_of}
use Rattle.conditional_stops.specs.Views.{table_of}
use Rattle.prompt_going.proofs.going.go_by_pieces.Given as goal

abbrev pub invariant-loop-piece : goal.invariant-loop-piece
invariant-loop-piece g l =
    (s : Setting) (d : Debugger) → StandsFor g.M.RecordedMachine.stands l.initial.session s d
    → (at : Debugger) × StandsFor g.M.RecordedMachine.stands l.session s at × Passes (l.piece * 10000) s (command_of l.direction) d (table_of l.initial.conditions) at (table_of l.conditions)
