-- The breakpoint on a line, by the definitions.
use Rattle.std.specs.Prelude.{ℕ, Option, Some, None}
use Rattle.gang_model.specs.Debugger.Debugger.{Debugger, Setting, first_stop, least_from, now, on_line, step_lines}
use Rattle.gang_model.specs.Debugger.Positions.{line_now}

-- the breakpoint on the line where the program stands
abbrev pub stop_here : Setting → Debugger → Option ℕ
stop_here s d = first_stop (on_line (line_now s.program (now s d))) d.stops

-- the first breakpoint on the line on which a breakpoint for this line would be
abbrev pub stop_on : Setting → Debugger → (line : Option ℕ) → Option ℕ
stop_on s d None = None
stop_on s d (Some n) = first_stop (on_line (least_from n (step_lines s.program))) d.stops
