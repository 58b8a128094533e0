-- The breakpoints and watches that an editor is told.
use Rattle.std.specs.Prelude.{◌≡◌, ℕ, Bool, true, false, ◌==◌, ◌&&◌, ◌++◌, List, length, Option, Some, None, Result, Ok, Err, is_none, codes, slice_get, string_bytes}
use Rattle.gang_model.specs.Source.Names.{same_text}
use Rattle.gang_types.specs.declared.types.Rate.{Rate}
use Rattle.gang_model.specs.Types.Tree.{Variable}
use Rattle.gang_model.specs.Debugger.Debugger.{Command, Debugger, DoWatch, Line, Setting, Stop, Target, Watch, bad_part, first_stop, global_named, least_from, now, on_line, shown_words, step_lines}
use Rattle.gang_model.specs.Texts.CommandText.{command_of}
use Rattle.gang_model.specs.Texts.Text.{Bytes}
use Rattle.debug_traits.specs.Machines.{file_variables}
use Rattle.adapter_requests.specs.declared.reply.Breakpoint.{Breakpoint}
use Rattle.adapter_requests.specs.declared.reply.Breakpoint.TheVariants.{Stands, Refused}
use Rattle.adapter_requests.specs.declared.reply.BreakpointFault.{BreakpointFault}
use Rattle.adapter_requests.specs.declared.reply.BreakpointFault.TheVariants as fault
use Rattle.adapter_requests.specs.declared.reply.Reply.{Reply}
use Rattle.adapter_requests.specs.declared.reply.Reply.TheVariants as reply
use Rattle.adapter_requests.specs.declared.request.DataBreakpoint.{DataBreakpoint}
use Rattle.adapter_requests.specs.declared.request.FunctionBreakpoint.{FunctionBreakpoint}
use Rattle.adapter_requests.specs.declared.request.LineBreakpoint.{LineBreakpoint}
use Rattle.function_lines.specs.Lines.{function_line}

-- a breakpoint or a watch by its number, and its line if it has one; without a number it is not there for this reason
abbrev pub standing : Option ℕ → (line : Option ℕ) → BreakpointFault → Breakpoint
standing (Some number) line why = Stands number line
standing None line why = Refused why

-- the breakpoint on a line among those that there are: where it is not there no more can be
abbrev pub breakpoint_of : List (ℕ × Stop) → Option ℕ → Breakpoint
breakpoint_of stops None = Refused fault.NoStep
breakpoint_of stops (Some line) = standing (first_stop (on_line (Some line)) stops) (Some line) fault.Full

-- the one that was asked for on a line: it stands on the first line from there on that has a place; another source has none
abbrev pub told_breakpoint : Setting → (is_program : Bool) → List (ℕ × Stop) → Result LineBreakpoint BreakpointFault → Breakpoint
told_breakpoint s is_program stops (Err why) = Refused why
told_breakpoint s false stops (Ok asked) = Refused fault.OtherSource
told_breakpoint s true stops (Ok asked) = breakpoint_of stops (least_from asked.line (step_lines s.program))

-- the breakpoint on the first line of a function; a name that is no function's has none
abbrev pub on_function : List (ℕ × Stop) → (line : Option ℕ) → Breakpoint
on_function stops None = Refused fault.NoFunction
on_function stops (Some line) = standing (first_stop (on_line (Some line)) stops) (Some line) fault.Full

-- the one that was asked for on a function
abbrev pub told_function : Setting → List (ℕ × Stop) → Result FunctionBreakpoint BreakpointFault → Breakpoint
told_function s stops (Err why) = Refused why
told_function s stops (Ok asked) = on_function stops (function_line s.program asked.name.now)

-- the same index, or none
abbrev pub same_index : Option ℕ → Option ℕ → Bool
same_index None None = true
same_index (Some i) (Some j) = i == j
same_index one other = false

-- whether a stop is a watch of a target
abbrev pub watches_target : Target → Stop → Bool
watches_target target (Line line) = false
watches_target target (Watch other v) = same_text other.name target.name && same_index other.at target.at

-- the least number of a watch that a line asks for
abbrev pub watch_number : Option Command → List (ℕ × Stop) → Option ℕ
watch_number (Some (DoWatch target)) stops = first_stop (watches_target target) stops
watch_number other stops = None

abbrev pub is_called : Bytes → Option Variable → Bool
is_called name None = false
is_called name (Some v) = same_text v.name name

-- whether the variable of the file with a number has a name
abbrev pub has_name : Setting → ℕ → Bytes → Bool
has_name s variable name = is_called name (slice_get (file_variables s) variable)

-- a whole scalar, a lane of a varying one or an element that is there
abbrev pub is_part : Option ℕ → (is_array : Bool) → Rate → (words : ℕ) → Bool
is_part at is_array rate words = is_none (bad_part false at is_array rate words)

-- whether a variable that is found has what a target asks for
abbrev pub has_target : Setting → Debugger → Target → Option Variable → Bool
has_target s d target None = false
has_target s d target (Some v) = is_part target.at v.is_array v.rate (length (shown_words (now s d) v))

-- whether a command watches what can be watched: one variable of the file, a lane of it or an element
abbrev pub can_watch : Setting → Debugger → Option Command → Bool
can_watch s d (Some (DoWatch target)) = has_target s d target (global_named s.program target.name)
can_watch s d other = false

-- whether a text names what can be watched, as `watch` takes it
abbrev pub is_watchable : Setting → Debugger → Bytes → Bool
is_watchable s d text = can_watch s d (command_of (codes "watch " ++ text))

-- why a watch of what can be watched, or cannot, is not there
abbrev pub no_watch : (is_watchable : Bool) → BreakpointFault
no_watch true = fault.Full
no_watch false = fault.NotWatched

-- the watch of a target, as `watch` takes it
abbrev pub told_watch : Setting → Debugger → List (ℕ × Stop) → Result DataBreakpoint BreakpointFault → Breakpoint
told_watch s d stops (Err why) = Refused why
told_watch s d stops (Ok asked) = standing (watch_number (command_of (codes "watch " ++ asked.target.now)) stops) None (no_watch (is_watchable s d asked.target.now))

-- what an editor is told that asks whether a text can be watched: the text, or that it cannot
abbrev pub IsWatchableTold : (is_watchable : Bool) → Bytes → Reply → Type 0
IsWatchableTold true text (reply.Watchable told) = string_bytes told ≡ text
IsWatchableTold true text told = ⊥
IsWatchableTold false text told = told ≡ reply.NotWatchable
