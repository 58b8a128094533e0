-- The commands that a request is: each is a line of the debugger.
use Rattle.std.specs.List.{list_any}
use Rattle.std.specs.Prelude.{ℕ, Bool, true, false, not, List, [], ◌∷◌, ◌++◌, flat_map, map, Option, Some, None, Result, Ok, Err, codes, decimal, ◌&&◌, ◌||◌, ◌==◌, option_map, if◌then◌else◌}
use Rattle.gang_model.specs.Source.Names.{same_text}
use Rattle.gang_model.specs.Debugger.Debugger.{Command, Debugger, DoInfoLocals, DoPrint, DoSet, DoSetIn, Setting, Stop, Line, Watch, depth, now}
use Rattle.gang_model.specs.Types.Tree.{Program}
use Rattle.gang_model.specs.Texts.CommandText.{command_of}
use Rattle.gang_model.specs.Texts.Text.{Bytes}
use Rattle.adapter_requests.specs.declared.reply.BreakpointFault.{BreakpointFault}
use Rattle.adapter_requests.specs.declared.request.Context.{Context}
use Rattle.adapter_requests.specs.declared.request.Context.TheVariants.{Console}
use Rattle.adapter_requests.specs.declared.request.DataBreakpoint.{DataBreakpoint}
use Rattle.adapter_requests.specs.declared.request.FunctionBreakpoint.{FunctionBreakpoint}
use Rattle.adapter_requests.specs.declared.request.LineBreakpoint.{LineBreakpoint}
use Rattle.adapter_requests.specs.declared.request.Request.{Request}
use Rattle.adapter_requests.specs.declared.request.Request.TheVariants as request
use Rattle.adapter_requests.specs.declared.request.Way.{Way}
use Rattle.adapter_replies.specs.References.{depth_in, is_frame, is_set_there, place_of}
use Rattle.function_lines.specs.Lines.{function_line}
use Rattle.adapter_session.specs.declared.lines.Kind.{Kind}
use Rattle.adapter_session.specs.declared.lines.Kind.TheVariants.{Functions, Lines, Watches}
use Rattle.adapter_session.specs.Going.{goto_commands, goto_of}
use Rattle.std.specs.Borrow.{Bor}

-- whether a stop is a breakpoint
abbrev pub is_breakpoint : Stop → Bool
is_breakpoint (Line line) = true
is_breakpoint (Watch target v) = false

-- whether a stop is a watch
abbrev pub is_watch : Stop → Bool
is_watch (Line line) = false
is_watch (Watch target v) = true

-- whether a number is one of some
abbrev pub is_in : (numbers : List ℕ) → ℕ → Bool
is_in numbers number = list_any (λ n. n == number) numbers

-- whether a stop is a breakpoint of a line, or of a function, where those of functions have these numbers
abbrev pub is_of_line : (functions : List ℕ) → ℕ × Stop → Bool
is_of_line functions entry = is_breakpoint entry.1 && not (is_in functions entry.0)

abbrev pub is_of_function : (functions : List ℕ) → ℕ × Stop → Bool
is_of_function functions entry = is_breakpoint entry.1 && is_in functions entry.0

-- the test for a kind
abbrev pub test_of : Kind → (functions : List ℕ) → ℕ × Stop → Bool
test_of Lines functions entry = is_of_line functions entry
test_of Functions functions entry = is_of_function functions entry
test_of Watches functions entry = is_watch entry.1

-- the numbers of the stops that pass a test
abbrev pub numbers_of : (ℕ × Stop → Bool) → List (ℕ × Stop) → List ℕ
numbers_of test [] = []
numbers_of test (entry ∷ stops) = if test entry then entry.0 ∷ numbers_of test stops else numbers_of test stops

-- the line that deletes a stop
abbrev pub delete_line : ℕ → Bytes
delete_line n = codes "delete " ++ decimal n

-- the line that makes a breakpoint
abbrev pub break_line : ℕ → Bytes
break_line n = codes "break " ++ decimal n

-- the line that makes a watch
abbrev pub watch_line : Bytes → Bytes
watch_line target = codes "watch " ++ target

-- the line that shows a target
abbrev pub print_line : Bytes → Bytes
print_line target = codes "print " ++ target

-- the line that sets a target
abbrev pub set_line : (target value : Bytes) → Bytes
set_line target value = codes "set var " ++ (target ++ (codes " = " ++ value))

-- a line alone
abbrev pub only : Bytes → List Bytes
only line = line ∷ []

-- whether an expression is looked up in another frame than the top one
abbrev pub is_elsewhere : (top : ℕ) → (frame : Option ℕ) → Bool
is_elsewhere top None = false
is_elsewhere top (Some frame) = not (frame == top)

-- whether there is a frame of a number: the top one, where none is asked for
abbrev pub has_frame : (top : ℕ) → (frame : Option ℕ) → Bool
has_frame top None = true
has_frame top (Some frame) = is_frame top frame

-- the line that shows an expression; none does it in another frame than the top one
abbrev pub print_lines : (is_elsewhere : Bool) → Bytes → List Bytes
print_lines true text = []
print_lines false text = only (print_line text)

-- whether an expression stands in the console
abbrev pub is_console : Context → Bool
is_console Console = true
is_console other = false

-- whether a command only looks at the top frame: the reply says the same of another one
abbrev pub is_look : Command → Bool
is_look (DoPrint target) = true
is_look DoInfoLocals = true
is_look other = false

-- whether a command sets a value
abbrev pub is_set : Command → Bool
is_set (DoSet target z) = true
is_set other = false

-- whether a line of the console is done as the command that it spells: one that looks at the top frame is not, where another one is looked at, nor is one that
-- sets a value, where no frame is there
abbrev pub is_done : (is_elsewhere has_frame : Bool) → Option Command → Bool
is_done is_elsewhere has_frame None = false
is_done is_elsewhere has_frame (Some command) = not (is_elsewhere && is_look command) && (has_frame || not (is_set command))

-- the line of an expression: in the console the line itself, where it spells a command that is done; else that which shows it
abbrev pub evaluated : (is_console is_elsewhere has_frame : Bool) → Bytes → List Bytes
evaluated is_console is_elsewhere has_frame text = if is_console && is_done is_elsewhere has_frame (command_of text) then only text else print_lines is_elsewhere text

-- the line that sets a target, where it can be set
abbrev pub set_lines : (is_set : Bool) → (target value : Bytes) → List Bytes
set_lines true target value = only (set_line target value)
set_lines false target value = []

-- whether a source is the program's
abbrev pub is_program : (program : Bytes) → Option (Bor Bytes) → Bool
is_program program None = false
is_program program (Some source) = same_text source.now program

-- the line for what is asked for; none for what cannot be made
abbrev pub line_for : {A : Type 0} → (A → Bytes) → Result A BreakpointFault → List Bytes
line_for line (Ok place) = only (line place)
line_for line (Err fault) = []

-- the lines that delete the stops of a kind
abbrev pub delete_lines : Kind → (functions : List ℕ) → List (ℕ × Stop) → List Bytes
delete_lines kind functions stops = map delete_line (numbers_of (test_of kind functions) stops)

-- the lines that put breakpoints on lines of a source, in place of those that lines have; another source has none
abbrev pub break_lines : (is_program : Bool) → (functions : List ℕ) → List (ℕ × Stop) → List (Result LineBreakpoint BreakpointFault) → List Bytes
break_lines false functions stops lines = []
break_lines true functions stops lines = delete_lines Lines functions stops ++ flat_map (line_for (λ asked. break_line asked.line)) lines

-- the line that makes a breakpoint of a function on its first line; none where no function has the name
abbrev pub break_at : Option ℕ → List Bytes
break_at None = []
break_at (Some line) = only (break_line line)

abbrev pub function_line_for : Program → Result FunctionBreakpoint BreakpointFault → List Bytes
function_line_for p (Ok asked) = break_at (function_line p asked.name.now)
function_line_for p (Err fault) = []

-- the lines that put breakpoints on functions of a program, in place of those that functions have
abbrev pub function_break_lines : Program → (functions : List ℕ) → List (ℕ × Stop) → List (Result FunctionBreakpoint BreakpointFault) → List Bytes
function_break_lines p functions stops asked = delete_lines Functions functions stops ++ flat_map (function_line_for p) asked

-- the lines that watch targets, in place of those that are watched
abbrev pub watch_lines : (functions : List ℕ) → List (ℕ × Stop) → List (Result DataBreakpoint BreakpointFault) → List Bytes
watch_lines functions stops targets = delete_lines Watches functions stops ++ flat_map (line_for (λ asked. watch_line asked.target.now)) targets

-- the line of a request that moves the program; none of one that does nothing
abbrev pub move_lines : Request → List Bytes
move_lines request.Next = only (codes "next")
move_lines request.StepIn = only (codes "step")
move_lines request.StepOut = only (codes "finish")
move_lines request.Continue = only (codes "continue")
move_lines request.StepBack = only (codes "reverse-step")
move_lines request.ReverseContinue = only (codes "reverse-continue")
move_lines other = []

-- the lines of a request about a value, and those of any other that sets no breakpoint or watch
abbrev pub value_lines : (top : ℕ) → Request → List Bytes
value_lines top (request.SetVariable reference name value is_hexadecimal) = set_lines (is_set_there top (place_of reference)) name.now value.now
value_lines top (request.SetExpression expression value frame is_hexadecimal) = set_lines (has_frame top frame) expression.now value.now
value_lines top (request.Evaluate expression frame context is_hexadecimal) = evaluated (is_console context) (is_elsewhere top frame) (has_frame top frame) expression.now
value_lines top other = move_lines other

-- the lines that a request is, given a program, the path of its source, the numbers of the breakpoints of functions, its depth, and the breakpoints and watches
abbrev pub lines_of : Program → (program : Bytes) → (functions : List ℕ) → (top : ℕ) → List (ℕ × Stop) → Request → List Bytes
lines_of p program functions top stops (request.SetBreakpoints source lines) = break_lines (is_program program source) functions stops lines.items
lines_of p program functions top stops (request.SetFunctionBreakpoints asked) = function_break_lines p functions stops asked.items
lines_of p program functions top stops (request.SetDataBreakpoints targets) = watch_lines functions stops targets.items
lines_of p program functions top stops other = value_lines top other

-- the command of a line, where it spells one
abbrev pub command_list : Option Command → List Command
command_list None = []
command_list (Some command) = command ∷ []

-- the commands that lines spell
abbrev pub spelled : List Bytes → List Command
spelled lines = flat_map (λ line. command_list (command_of line)) lines

-- ---- the frame in which a value is set

-- the depth of a frame, where it is another one than the top one
abbrev pub outer : (top depth : ℕ) → Option ℕ
outer top deep = if deep == top then None else Some deep

abbrev pub outer_frame : (top : ℕ) → (frame : Option ℕ) → Option ℕ
outer_frame top None = None
outer_frame top (Some frame) = outer top frame

-- the depth of the frame in which a request sets a value, where it is another one than the top one; variables of the file are in none
abbrev pub frame_of : (top : ℕ) → Request → Option ℕ
frame_of top (request.SetVariable reference name value is_hexadecimal) = outer top (depth_in top (place_of reference))
frame_of top (request.SetExpression expression value frame is_hexadecimal) = outer_frame top frame
frame_of top (request.Evaluate expression frame context is_hexadecimal) = outer_frame top frame
frame_of top other = None

-- a command in the frame at a depth: a value is set there, and any other command is the same
abbrev pub set_at : (depth : ℕ) → Command → Command
set_at deep (DoSet target z) = DoSetIn deep target z
set_at deep other = other

-- the same in the frame at a depth, if there is one: of a command, of one that may be spelled, and of commands
abbrev pub set_there : (frame : Option ℕ) → Command → Command
set_there None command = command
set_there (Some deep) command = set_at deep command

abbrev pub in_frame : (frame : Option ℕ) → Option Command → Option Command
in_frame None command = command
in_frame (Some deep) command = option_map (set_at deep) command

abbrev pub all_in_frame : (frame : Option ℕ) → List Command → List Command
all_in_frame None commands = commands
all_in_frame (Some deep) commands = map (set_at deep) commands

-- the commands of the lines that a request is, in its frame
abbrev pub commands_there : Program → (program : Bytes) → (functions : List ℕ) → (top : ℕ) → List (ℕ × Stop) → Request → List Command
commands_there p program functions top stops request = all_in_frame (frame_of top request) (spelled (lines_of p program functions top stops request))

-- the commands by which the program goes to a time of a line, or else those of lines
abbrev pub commands_by : Option (ℕ × Way) → Setting → Debugger → (spelled : List Command) → List Command
commands_by None s d spelled = spelled
commands_by (Some time) s d spelled = goto_commands s d time

-- the commands that a request is where a debugger stands
abbrev pub commands_of : (program : Bytes) → (functions : List ℕ) → Setting → Debugger → Request → List Command
commands_of program functions s d request = commands_by (goto_of request) s d (commands_there s.program program functions (depth (now s d)) d.stops request)
