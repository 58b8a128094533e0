-- the breakpoints on the line that were read are asked
use Rattle.std.proofs.Common.{drop}
use Rattle.gang_model.specs.Debugger.Debugger.{Debugger, Setting, now, on_line}
use Rattle.gang_model.specs.Debugger.Positions.{line_now}
use Rattle.debug_session.specs.Sessions.{StandsFor}
use Rattle.conditional_stops.specs.declared.reasons.Reason.TheVariants as reason
use Rattle.conditional_stops.specs.Views.{table_of}
use Rattle.conditional_stops.proofs.Asked.{AskedSo}
use Rattle.conditional_stops.proofs.asking.ask_breakpoints.Given as goal

abbrev pub invariant-loop-entry : goal.invariant-loop-entry
invariant-loop-entry g l =
    (s : Setting) (d : Debugger) → StandsFor g.M.RecordedMachine.stands l.session s d
    → AskedSo reason.Breakpoint (on_line (line_now s.program (now s d))) s d d.stops (table_of l.initial.conditions) (drop l.entry-index l.entry-items) l.first (table_of l.conditions)
