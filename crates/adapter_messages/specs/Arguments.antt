-- What a request says.
use Rattle.std.specs.Prelude.{◌≡◌, ℕ, ◌^◌, ◌-◌, ◌*◌, ◌+◌, ◌/◌, ◌%◌, ◌==◌, ◌||◌, Bool, true, false, not, List, [], ◌∷◌, map, Option, Some, None, Result, Ok, Err, codes, if◌then◌else◌, is_some, length, nat_eq, nat_lt, option_and_then, option_map, take, unwrap_or}
use Rattle.std.specs.List.{ends_with}
use Rattle.std.specs.Borrow.{Bor}
use Rattle.serde_json.specs.Data.{Data, Items, item, no_items}
use Rattle.serde_json.specs.Find.{as_array, as_bool, as_null, as_number, as_str, as_u64, get, pointer}
use Rattle.gang_model.specs.Source.Names.{same_text}
use Rattle.gang_model.specs.Texts.Text.{Bytes}
use Rattle.adapter_requests.specs.declared.reply.BreakpointFault.{BreakpointFault}
use Rattle.adapter_requests.specs.declared.reply.BreakpointFault.TheVariants as fault
use Rattle.adapter_requests.specs.declared.request.Context.{Context}
use Rattle.adapter_requests.specs.declared.request.Context.TheVariants.{Console, Hover, Watch}
use Rattle.adapter_requests.specs.declared.request.DataBreakpoint.{DataBreakpoint}
use Rattle.adapter_requests.specs.declared.request.Filter.{Filter}
use Rattle.adapter_requests.specs.declared.request.Filter.TheVariants as filter
use Rattle.adapter_requests.specs.declared.request.FunctionBreakpoint.{FunctionBreakpoint}
use Rattle.adapter_requests.specs.declared.request.Launch.{Launch}
use Rattle.adapter_requests.specs.declared.request.LineBreakpoint.{LineBreakpoint}
use Rattle.adapter_requests.specs.declared.request.Page.{Page}
use Rattle.adapter_requests.specs.declared.request.Request.{Request}
use Rattle.adapter_requests.specs.declared.request.Request.TheVariants as request
use Rattle.adapter_requests.specs.declared.request.Way.{Way}
use Rattle.adapter_requests.specs.declared.request.Way.TheVariants.{Backwards, Forwards}
use Rattle.adapter_messages.specs.declared.arguments.Named.{Named}
use Rattle.adapter_messages.specs.declared.names.Name.{Name}
use Rattle.adapter_messages.specs.declared.names.Name.TheVariants as name
use Rattle.adapter_messages.specs.Counts.{passes_said}
use Rattle.adapter_messages.specs.Names.{named}

-- a text, a number or a truth value at a place of a message
abbrev pub text_at : (path : Bytes) → Data → Option Bytes
text_at path message = option_and_then as_str (pointer path message)

abbrev pub number_at : (path : Bytes) → Data → Option ℕ
number_at path message = option_and_then as_u64 (option_and_then as_number (pointer path message))

abbrev pub flag_at : (path : Bytes) → Data → Option Bool
flag_at path message = option_and_then as_bool (pointer path message)

-- two values, if there are both
abbrev pub both : {A B : Type 0} → Option A → Option B → Option (A × B)
both None second = None
both (Some x) None = None
both (Some x) (Some y) = Some (x, y)

-- whether a word is `request`
abbrev pub is_request_word : Option Bytes → Bool
is_request_word None = false
is_request_word (Some word) = same_text word (codes "request")

-- whether a message says that it is a request: its type is this text
abbrev pub is_request : Data → Bool
is_request message = is_request_word (option_and_then as_str (get (codes "type") message))

-- the number and the command of a request, if it has both; a message of another type is none
abbrev pub head_of : Data → Option (ℕ × Bytes)
head_of message =
    if is_request message then both (option_and_then as_u64 (option_and_then as_number (get (codes "seq") message))) (option_and_then as_str (get (codes "command") message))
    else None

-- a text that may be there
abbrev pub text_of : Option (Bor Bytes) → Option Bytes
text_of text = option_map (λ t. t.now) text

-- the arguments of a launch
pub record IsLaunch (message : Data) (launch : Launch) : Type 0 where
  pub program : text_at (codes "/arguments/program") message ≡ Some launch.program.now
  pub input : text_at (codes "/arguments/input") message ≡ text_of launch.input
  pub entry : text_at (codes "/arguments/entry") message ≡ text_of launch.entry
  pub width : number_at (codes "/arguments/width") message ≡ launch.width
  pub history : number_at (codes "/arguments/history") message ≡ launch.history
  pub steps : number_at (codes "/arguments/steps") message ≡ launch.steps
  pub stops_on_entry : unwrap_or (flag_at (codes "/arguments/stopOnEntry") message) true ≡ launch.stops_on_entry
  pub lane_threads : unwrap_or (flag_at (codes "/arguments/laneThreads") message) false ≡ launch.lane_threads

-- whether an editor wants to hear that values have changed though the program stood still
abbrev pub hears_invalidated_in : Data → Bool
hears_invalidated_in message = unwrap_or (flag_at (codes "/arguments/supportsInvalidatedEvent") message) false

-- whether values are asked for as hexadecimal numbers
abbrev pub hexadecimal_in : Data → Bool
hexadecimal_in message = unwrap_or (flag_at (codes "/arguments/format/hex") message) false

-- where an expression stands, by the word for it
abbrev pub context_in : Option Bytes → Context
context_in None = Watch
context_in (Some word) = if same_text word (codes "repl") then Console else (if same_text word (codes "hover") then Hover else Watch)

-- which kind of children is asked for, by the word for it
abbrev pub filter_in : Option Bytes → Filter
filter_in None = filter.All
filter_in (Some word) = if same_text word (codes "named") then filter.Named else (if same_text word (codes "indexed") then filter.Indexed else filter.All)

-- which of the children are asked for
abbrev pub page_in : Data → Page
page_in message = record {
  start = number_at (codes "/arguments/start") message;
  count = number_at (codes "/arguments/count") message;
  filter = filter_in (text_at (codes "/arguments/filter") message);
}

-- what is behind the name and the value of a lane that is not active
abbrev pub mark : Bytes
mark = codes " (waits)"

-- a name or a value without the mark
abbrev pub unmarked : Bytes → Bytes
unmarked text = if ends_with nat_eq text mark then take (length text - length mark) text else text

-- a name or a value at a place of a message, without the mark
abbrev pub unmarked_at : (path : Bytes) → Data → Option Bytes
unmarked_at path message = option_map unmarked (text_at path message)

-- a value is not there, or is `null`
abbrev pub is_absent : Option Data → Bool
is_absent None = true
is_absent (Some d) = is_some (as_null d)

-- what may be left out is not there, or is of the right type and so can be read
abbrev pub is_right : {A : Type 0} → (read : Option A) → Option Data → Bool
is_right read given = is_some read || is_absent given

-- a number that a line can have
abbrev pub as_line : ℕ → Option ℕ
as_line n = if nat_lt n (2 ^ 32) then Some n else None

-- a line at a place of a message
abbrev pub line_at : (path : Bytes) → Data → Option ℕ
line_at path message = option_and_then as_line (number_at path message)

-- the number of a time of a line: LINE 0 for the next time, LINE 1 for the last one, in the base 2
abbrev pub way_number : Way → ℕ
way_number Forwards = 0
way_number Backwards = 1

abbrev pub time_number : (line : ℕ) → Way → ℕ
time_number line way = line * 2 + way_number way

-- the line and the time that a number stands for
abbrev pub way_of : ℕ → Way
way_of n = if n % 2 == 0 then Forwards else Backwards

abbrev pub time_of : ℕ → Option (ℕ × Way)
time_of n = option_map (λ line. (line, way_of n)) (as_line (n / 2))

-- the line and the time that a message asks for
abbrev pub time_in : Data → Option (ℕ × Way)
time_in message = option_and_then time_of (number_at (codes "/arguments/targetId") message)

-- a number that the line of a breakpoint can have: lines count from 1
abbrev pub as_counted_line : ℕ → Option ℕ
as_counted_line n = if n == 0 then None else as_line n

-- the line of a breakpoint
abbrev pub line_in : Data → Option ℕ
line_in d = option_and_then as_counted_line (option_and_then as_u64 (option_and_then as_number (get (codes "line") d)))

-- what each of a list asks for
abbrev pub each_asked : {A : Type 0} → (Data → Result A BreakpointFault) → Items → List (Result A BreakpointFault)
each_asked read no_items = []
each_asked read (item d ds) = read d ∷ each_asked read ds

-- ---- breakpoints with conditions, counts and messages

-- a breakpoint that is asked for: its line, the text of its condition, if it has one, how many of its stops are passed first, and the
-- message that it writes in place of stopping, if it does
pub record Asked : Type 0 where
  pub line : ℕ
  pub condition : Option Bytes
  pub passes : ℕ
  pub log : Option Bytes

-- the same of one that was read
abbrev pub asked_breakpoint : Result LineBreakpoint BreakpointFault → Result Asked BreakpointFault
asked_breakpoint (Ok b) = Ok (record { line = b.line; condition = text_of b.condition; passes = b.passes; log = text_of b.log })
asked_breakpoint (Err fault) = Err fault

-- the text of a condition or a message that was read
abbrev pub asked_option : Result (Option (Bor Bytes)) BreakpointFault → Result (Option Bytes) BreakpointFault
asked_option (Ok text) = Ok (text_of text)
asked_option (Err fault) = Err fault

-- a text that can be a condition has at most 256 bytes; an empty one is none
abbrev pub fitting : Bytes → Result (Option Bytes) BreakpointFault
fitting text = if length text == 0 then Ok None else (if nat_lt 256 (length text) then Err fault.NoCondition else Ok (Some text))

abbrev pub condition_by : (is_absent : Bool) → Option Bytes → Result (Option Bytes) BreakpointFault
condition_by true text = Ok None
condition_by false None = Err fault.NoCondition
condition_by false (Some text) = fitting text

-- the condition of a breakpoint, if it has one
abbrev pub condition_in : Data → Result (Option Bytes) BreakpointFault
condition_in d = condition_by (is_absent (get (codes "condition") d)) (option_and_then as_str (get (codes "condition") d))

abbrev pub passes_by : (is_absent : Bool) → Option Bytes → Result ℕ BreakpointFault
passes_by true text = Ok 0
passes_by false None = Err fault.NoCount
passes_by false (Some text) = passes_said text

-- how many stops of a breakpoint are passed
abbrev pub passes_in : Data → Result ℕ BreakpointFault
passes_in d = passes_by (is_absent (get (codes "hitCondition") d)) (option_and_then as_str (get (codes "hitCondition") d))

-- the first of three that is wrong, or the breakpoint that they are
abbrev pub joined : (line : Option ℕ) → (condition : Result (Option Bytes) BreakpointFault) → (passes : Result ℕ BreakpointFault) → Result Asked BreakpointFault
joined None condition passes = Err fault.Unplaced
joined (Some line) (Err fault) passes = Err fault
joined (Some line) (Ok condition) (Err fault) = Err fault
joined (Some line) (Ok condition) (Ok passes) = Ok (record { line = line; condition = condition; passes = passes; log = None })

-- a text that can be a message has at most 256 bytes; an empty one is none
abbrev pub fitting_message : Bytes → Result (Option Bytes) BreakpointFault
fitting_message text = if length text == 0 then Ok None else (if nat_lt 256 (length text) then Err fault.NoMessage else Ok (Some text))

abbrev pub log_by : (is_absent : Bool) → Option Bytes → Result (Option Bytes) BreakpointFault
log_by true text = Ok None
log_by false None = Err fault.NoMessage
log_by false (Some text) = fitting_message text

-- the message that a breakpoint writes in place of stopping, if it does
abbrev pub log_in : Data → Result (Option Bytes) BreakpointFault
log_in d = log_by (is_absent (get (codes "logMessage") d)) (option_and_then as_str (get (codes "logMessage") d))

-- a breakpoint with its message, or what is wrong with either
abbrev pub logging : Result Asked BreakpointFault → (log : Result (Option Bytes) BreakpointFault) → Result Asked BreakpointFault
logging (Err fault) log = Err fault
logging (Ok asked) (Err fault) = Err fault
logging (Ok asked) (Ok log) = Ok (record asked { log = log })

-- what a breakpoint asks for
abbrev pub breakpoint_in : Data → Result Asked BreakpointFault
breakpoint_in d = logging (joined (line_in d) (condition_in d) (passes_in d)) (log_in d)

-- ---- breakpoints of functions and watches

-- a breakpoint of a function, or a watch, that is asked for: the name of the function or what is watched, the text of its condition, if it has one, and how many
-- of its stops are passed first
pub record AskedName : Type 0 where
  pub name : Bytes
  pub condition : Option Bytes
  pub passes : ℕ

-- the same of one that was read
abbrev pub asked_function : Result FunctionBreakpoint BreakpointFault → Result AskedName BreakpointFault
asked_function (Ok b) = Ok (record { name = b.name.now; condition = text_of b.condition; passes = b.passes })
asked_function (Err fault) = Err fault

abbrev pub asked_name : Result Named BreakpointFault → Result AskedName BreakpointFault
asked_name (Ok b) = Ok (record { name = b.name.now; condition = text_of b.condition; passes = b.passes })
asked_name (Err fault) = Err fault

abbrev pub asked_watch : Result DataBreakpoint BreakpointFault → Result AskedName BreakpointFault
asked_watch (Ok b) = Ok (record { name = b.target.now; condition = text_of b.condition; passes = b.passes })
asked_watch (Err fault) = Err fault

-- the first of three that is wrong, or what they ask for
abbrev pub joined_name : (name : Option Bytes) → (condition : Result (Option Bytes) BreakpointFault) → (passes : Result ℕ BreakpointFault) → Result AskedName BreakpointFault
joined_name None condition passes = Err fault.Unplaced
joined_name (Some name) (Err fault) passes = Err fault
joined_name (Some name) (Ok condition) (Err fault) = Err fault
joined_name (Some name) (Ok condition) (Ok passes) = Ok (record { name = name; condition = condition; passes = passes })

-- whether it is to write a message
abbrev pub has_log : Data → Bool
has_log d = not (is_absent (get (codes "logMessage") d))

-- what is asked for by the text of a member, which writes no message
abbrev pub named_in : (member : Bytes) → Data → Result AskedName BreakpointFault
named_in member d = if has_log d then Err fault.Logging else joined_name (option_and_then as_str (get member d)) (condition_in d) (passes_in d)

-- what a breakpoint of a function asks for, and what a watch does
abbrev pub function_in : Data → Result AskedName BreakpointFault
function_in d = named_in (codes "name") d

abbrev pub watch_in : Data → Result AskedName BreakpointFault
watch_in d = named_in (codes "dataId") d

-- the breakpoints that a message lists; none where it has no list
abbrev pub breakpoints_of : Data → Items
breakpoints_of message = unwrap_or (option_and_then as_array (pointer (codes "/arguments/breakpoints") message)) no_items

-- a message is a request of a name
abbrev pub IsRequestNamed : Name → Data → Request → Type 0
IsRequestNamed name.Initialize message (request.Initialize hears_invalidated) = hears_invalidated ≡ hears_invalidated_in message
IsRequestNamed name.Launch message (request.Launch launch) = IsLaunch message launch
IsRequestNamed name.SetBreakpoints message (request.SetBreakpoints source lines) = (text_at (codes "/arguments/source/path") message ≡ text_of source) × (map asked_breakpoint lines.items ≡ each_asked breakpoint_in (breakpoints_of message))
IsRequestNamed name.SetFunctionBreakpoints message (request.SetFunctionBreakpoints functions) = map asked_function functions.items ≡ each_asked function_in (breakpoints_of message)
IsRequestNamed name.BreakpointLocations message (request.BreakpointLocations source first last) =
    (text_at (codes "/arguments/source/path") message ≡ text_of source) × (line_at (codes "/arguments/line") message ≡ Some first) × (line_at (codes "/arguments/endLine") message ≡ last)
IsRequestNamed name.GotoTargets message (request.GotoTargets source line) = (text_at (codes "/arguments/source/path") message ≡ text_of source) × (line_at (codes "/arguments/line") message ≡ Some line)
IsRequestNamed name.Goto message (request.Goto line way) = time_in message ≡ Some (line, way)
IsRequestNamed name.SetExceptionBreakpoints message request.SetExceptionBreakpoints = Unit {0}
IsRequestNamed name.ExceptionInfo message request.ExceptionInfo = Unit {0}
IsRequestNamed name.DataBreakpointInfo message (request.DataBreakpointInfo reference frame text) =
    (number_at (codes "/arguments/variablesReference") message ≡ reference) × (number_at (codes "/arguments/frameId") message ≡ frame) × (unmarked_at (codes "/arguments/name") message ≡ Some text.now)
IsRequestNamed name.SetDataBreakpoints message (request.SetDataBreakpoints targets) = map asked_watch targets.items ≡ each_asked watch_in (breakpoints_of message)
IsRequestNamed name.ConfigurationDone message request.ConfigurationDone = Unit {0}
IsRequestNamed name.Threads message request.Threads = Unit {0}
IsRequestNamed name.StackTrace message (request.StackTrace thread start levels) =
    (number_at (codes "/arguments/threadId") message ≡ thread) × (number_at (codes "/arguments/startFrame") message ≡ start) × (number_at (codes "/arguments/levels") message ≡ levels)
IsRequestNamed name.Scopes message (request.Scopes frame) = number_at (codes "/arguments/frameId") message ≡ Some frame
IsRequestNamed name.Variables message (request.Variables reference page is_hexadecimal) =
    (number_at (codes "/arguments/variablesReference") message ≡ Some reference) × (page ≡ page_in message) × (is_hexadecimal ≡ hexadecimal_in message)
IsRequestNamed name.SetVariable message (request.SetVariable reference text value is_hexadecimal) =
    (number_at (codes "/arguments/variablesReference") message ≡ Some reference) × (unmarked_at (codes "/arguments/name") message ≡ Some text.now)
    × (unmarked_at (codes "/arguments/value") message ≡ Some value.now) × (is_hexadecimal ≡ hexadecimal_in message)
IsRequestNamed name.SetExpression message (request.SetExpression expression value frame is_hexadecimal) =
    (text_at (codes "/arguments/expression") message ≡ Some expression.now) × (unmarked_at (codes "/arguments/value") message ≡ Some value.now)
    × (number_at (codes "/arguments/frameId") message ≡ frame) × (is_hexadecimal ≡ hexadecimal_in message)
IsRequestNamed name.Completions message (request.Completions text column frame) =
    (text_at (codes "/arguments/text") message ≡ Some text.now) × (number_at (codes "/arguments/column") message ≡ Some column) × (number_at (codes "/arguments/frameId") message ≡ frame)
IsRequestNamed name.Evaluate message (request.Evaluate expression frame context is_hexadecimal) =
    (text_at (codes "/arguments/expression") message ≡ Some expression.now) × (number_at (codes "/arguments/frameId") message ≡ frame)
    × (context ≡ context_in (text_at (codes "/arguments/context") message)) × (is_hexadecimal ≡ hexadecimal_in message)
IsRequestNamed name.Next message request.Next = Unit {0}
IsRequestNamed name.StepIn message request.StepIn = Unit {0}
IsRequestNamed name.StepOut message request.StepOut = Unit {0}
IsRequestNamed name.Continue message request.Continue = Unit {0}
IsRequestNamed name.StepBack message request.StepBack = Unit {0}
IsRequestNamed name.ReverseContinue message request.ReverseContinue = Unit {0}
IsRequestNamed name.Pause message request.Pause = Unit {0}
IsRequestNamed name.Restart message request.Restart = Unit {0}
IsRequestNamed name.Terminate message request.Terminate = Unit {0}
IsRequestNamed name.Disconnect message request.Disconnect = Unit {0}
IsRequestNamed name message request = ⊥

-- a message is a request of a name that is known, or of another one
abbrev pub IsRequestOf : Option Name → (command : Bytes) → Data → Request → Type 0
IsRequestOf None command message (request.Unknown text) = text.now ≡ command
IsRequestOf None command message request = ⊥
IsRequestOf (Some name) command message request = IsRequestNamed name message request

-- a message with a command is a request
abbrev pub IsRequest : (command : Bytes) → Data → Request → Type 0
IsRequest command message request = IsRequestOf (named command) command message request
