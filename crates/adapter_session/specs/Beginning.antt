-- Where a run begins.
use Rattle.std.specs.Prelude.{ℕ, Option}
use Rattle.gang_model.specs.Debugger.Positions.{line_now}
use Rattle.gang_model.specs.Debugger.Debugger.{Debugger, Setting, first_stop, now, on_line}

-- the least number of a breakpoint on the line of the next step
abbrev pub breakpoint_here : Setting → Debugger → Option ℕ
breakpoint_here s d = first_stop (on_line (line_now s.program (now s d))) d.stops
