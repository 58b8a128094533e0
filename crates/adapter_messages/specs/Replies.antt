-- What a request is told: the body of each reply, and of the events of a stop and of an output. Members stand in the order of their keys.
use Rattle.std.specs.Prelude.{ℕ, Bool, true, false, List, ◌++◌, decimal, map, Option, Some, None, codes, if◌then◌else◌, string_bytes, unwrap_or}
use Rattle.std.specs.Path.{path_file_name}
use Rattle.serde_json.specs.Data.{Data, Items, Members, array, boolean, item, member, no_items, no_members, null, object, put, string}
use Rattle.serde_json.specs.View.{items_of}
use Rattle.gang_model.specs.Source.Names.{same_text}
use Rattle.gang_model.specs.Texts.Text.{Bytes}
use Rattle.adapter_requests.specs.declared.reply.Breakpoint.{Breakpoint}
use Rattle.adapter_requests.specs.declared.reply.Breakpoint.TheVariants.{Stands, Refused}
use Rattle.adapter_requests.specs.declared.reply.BreakpointFault.{BreakpointFault}
use Rattle.adapter_requests.specs.declared.reply.BreakpointFault.TheVariants as fault
use Rattle.adapter_requests.specs.declared.reply.CallScopes.{CallScopes}
use Rattle.adapter_requests.specs.declared.reply.Completion.{Completion}
use Rattle.adapter_requests.specs.declared.reply.Exception.{Exception}
use Rattle.adapter_requests.specs.declared.reply.Frame.{Frame}
use Rattle.adapter_requests.specs.declared.reply.Reply.{Reply}
use Rattle.adapter_requests.specs.declared.reply.Reply.TheVariants as reply
use Rattle.adapter_requests.specs.declared.reply.Scopes.{Scopes}
use Rattle.adapter_requests.specs.declared.reply.StopReason.{StopReason}
use Rattle.adapter_requests.specs.declared.reply.StopReason.TheVariants as reason
use Rattle.adapter_requests.specs.declared.reply.Thread.{Thread}
use Rattle.adapter_requests.specs.declared.reply.Variable.{Variable}
use Rattle.adapter_requests.specs.declared.reply.VariableKind.{VariableKind}
use Rattle.adapter_requests.specs.declared.reply.VariableKind.TheVariants as kind
use Rattle.adapter_requests.specs.declared.request.Way.{Way}
use Rattle.adapter_requests.specs.declared.request.Way.TheVariants.{Backwards, Forwards}
use Rattle.adapter_messages.specs.Arguments.{mark, time_number}
use Rattle.adapter_messages.specs.Messages.{failure, natural, reason_text, response}

-- an array of what is shown for each of a list
abbrev pub array_of : {A : Type 0} → (A → Data) → List A → Data
array_of shown xs = array (items_of (map shown xs))

-- an object of one member
abbrev pub only : (name : Bytes) → Data → Data
only name value = object (member name value no_members)

-- the faults, which stop always
abbrev pub exception_filter : Data
exception_filter = object
    (member (codes "default") (boolean true)
    (member (codes "description") (string (codes "F1 to F5: each stops always, since no step goes past it"))
    (member (codes "filter") (string (codes "faults"))
    (member (codes "label") (string (codes "Faults")) no_members))))

-- that the adapter can do what has this name, beside others
abbrev pub able : (name : Bytes) → Members → Members
able name members = put name (boolean true) members

-- the filters of exceptions, beside others
abbrev pub with_filters : Members → Members
with_filters members = put (codes "exceptionBreakpointFilters") (array (item exception_filter no_items)) members

-- requests that are answered, beside others
abbrev pub with_requests : Members → Members
with_requests members =
    able (codes "supportsTerminateRequest")
    (able (codes "supportsRestartRequest")
    (able (codes "supportsGotoTargetsRequest")
    (able (codes "supportsExceptionInfoRequest")
    (able (codes "supportsConfigurationDoneRequest")
    (able (codes "supportsCompletionsRequest")
    (able (codes "supportsBreakpointLocationsRequest") members))))))

-- what breakpoints there are, beside others
abbrev pub with_breakpoints : Members → Members
with_breakpoints members =
    able (codes "supportsLogPoints")
    (able (codes "supportsHitConditionalBreakpoints")
    (able (codes "supportsFunctionBreakpoints")
    (able (codes "supportsDataBreakpoints")
    (able (codes "supportsConditionalBreakpoints") members))))

-- what else it can do, beside others
abbrev pub with_others : Members → Members
with_others members =
    able (codes "supportsValueFormattingOptions")
    (able (codes "supportsStepBack")
    (able (codes "supportsSetVariable")
    (able (codes "supportsSetExpression")
    (able (codes "supportsEvaluateForHovers")
    (able (codes "supportsDelayedStackTraceLoading") members)))))

-- what the adapter can do
abbrev pub capabilities : Data
capabilities = object (with_others (with_breakpoints (with_requests (with_filters no_members))))

-- why a breakpoint or a watch is not there
abbrev pub fault_text : BreakpointFault → Bytes
fault_text fault.Unplaced = codes "its line is no number from 1 to 4294967295, or its name or target is no text"
fault_text fault.Logging = codes "only a breakpoint of a line has a log message"
fault_text fault.NoCondition = codes "its condition is no text of at most 256 bytes"
fault_text fault.NoExpression = codes "its condition is no expression"
fault_text fault.NoCount = codes "its count is none of `N`, `>= N` and `> N`, with a first stop from 1 to 10000000"
fault_text fault.NoMessage = codes "its log message is no text of at most 256 bytes"
fault_text fault.OtherSource = codes "this source is not the program's"
fault_text fault.NoStep = codes "no step stands on this line or behind it"
fault_text fault.NoFunction = codes "no function of this name"
fault_text fault.NotWatched = codes "only scalars of the file, their lanes and elements of arrays are watched"
fault_text fault.Full = codes "no more breakpoints and watches can be there"

-- a breakpoint or a watch that was asked for: by its number, and by its line if it has one; or why it is not there
abbrev pub breakpoint : Breakpoint → Data
breakpoint (Stands number (Some line)) = object (member (codes "id") (natural number) (member (codes "line") (natural line) (member (codes "verified") (boolean true) no_members)))
breakpoint (Stands number None) = object (member (codes "id") (natural number) (member (codes "verified") (boolean true) no_members))
breakpoint (Refused why) = object (member (codes "message") (string (fault_text why)) (member (codes "verified") (boolean false) no_members))

-- a line on which a breakpoint can stand
abbrev pub location : ℕ → Data
location line = only (codes "line") (natural line)

-- which time of a line it is
abbrev pub way_text : Way → Bytes
way_text Forwards = codes "the next time"
way_text Backwards = codes "the last time before"

-- a time of a line to which the program can go
abbrev pub time : (line : ℕ) → Way → Data
time line way = object
    (member (codes "id") (natural (time_number line way))
    (member (codes "label") (string (codes "line " ++ (decimal line ++ (codes ", " ++ way_text way))))
    (member (codes "line") (natural line) no_members)))

-- the times of a line, if there is one
abbrev pub times : Option ℕ → Items
times None = no_items
times (Some line) = item (time line Forwards) (item (time line Backwards) no_items)

-- a name that can stand in a text, in place of so many units from a column on
abbrev pub completion : Completion → Data
completion shown = object
    (member (codes "label") (string (string_bytes shown.name))
    (member (codes "length") (natural shown.many)
    (member (codes "start") (natural shown.start) no_members)))

-- a target that can be watched: where it is written
abbrev pub watchable : (target : Bytes) → Data
watchable target = object
    (member (codes "accessTypes") (array (item (string (codes "write")) no_items))
    (member (codes "canPersist") (boolean false)
    (member (codes "dataId") (string target)
    (member (codes "description") (string target) no_members))))

-- a variable that cannot be watched
abbrev pub not_watchable : Data
not_watchable = object
    (member (codes "dataId") null
    (member (codes "description") (string (codes "only scalars of the file, their lanes and elements of arrays are watched")) no_members))

-- a thread
abbrev pub thread : Thread → Data
thread shown = object (member (codes "id") (natural shown.id) (member (codes "name") (string (string_bytes shown.name)) no_members))

-- the last part of a path, or the path where it has none
abbrev pub file_name : (path : Bytes) → Bytes
file_name path = unwrap_or (path_file_name path) path

-- the program's source, by its path
abbrev pub source : (program : Bytes) → Data
source program = object (member (codes "name") (string (file_name program)) (member (codes "path") (string program) no_members))

-- a frame of the program, whose number is its depth; lines and columns count from 1
abbrev pub frame : (program : Bytes) → Frame → Data
frame program shown = object
    (member (codes "column") (natural shown.column)
    (member (codes "id") (natural shown.depth)
    (member (codes "line") (natural shown.line)
    (member (codes "name") (string (string_bytes shown.name))
    (member (codes "presentationHint") (string (codes "normal"))
    (member (codes "source") (source program) no_members))))))

-- the frames that were asked for, the top one first, and how many there are
abbrev pub frames : (program : Bytes) → List Frame → (total : ℕ) → Data
frames program shown total = object
    (member (codes "stackFrames") (array_of (frame program) shown)
    (member (codes "totalFrames") (natural total) no_members))

-- a scope of a name and a reference, of which the protocol knows the kind
abbrev pub known_scope : (name kind : Bytes) → (reference : ℕ) → Data
known_scope name kind reference = object
    (member (codes "expensive") (boolean false)
    (member (codes "name") (string name)
    (member (codes "presentationHint") (string kind)
    (member (codes "variablesReference") (natural reference) no_members))))

-- the variables of the file
abbrev pub file_scope : (reference : ℕ) → Data
file_scope reference = object
    (member (codes "expensive") (boolean false)
    (member (codes "name") (string (codes "File"))
    (member (codes "variablesReference") (natural reference) no_members)))

-- the scopes of a function's call, before others; none at the end of the program, where no function runs
abbrev pub before_file : Option CallScopes → Items → Items
before_file None others = others
before_file (Some call) others =
    item (known_scope (codes "Locals") (codes "locals") call.locals)
    (item (known_scope (codes "Arguments") (codes "arguments") call.arguments) others)

-- the scopes of a frame
abbrev pub scopes : Scopes → Data
scopes shown = array (before_file shown.call (item (file_scope shown.file) no_items))

-- that what is shown can be set, or cannot: it is a constant, or is only looked at where it stands
abbrev pub attributes : (is_constant is_read_only : Bool) → Items
attributes true is_read_only = item (string (codes "constant")) (item (string (codes "readOnly")) no_items)
attributes false true = item (string (codes "readOnly")) no_items
attributes false false = no_items

-- the protocol's word for what is shown: a range of elements stands for no value of the program
abbrev pub kind_text : VariableKind → Bytes
kind_text kind.Range = codes "virtual"
kind_text other = codes "data"

-- how a variable is shown
abbrev pub hint : VariableKind → (attributes : Items) → Data
hint shown attributes = object (member (codes "attributes") (array attributes) (member (codes "kind") (string (kind_text shown)) no_members))

-- a variable by its name, its kind, its attributes, its type and its value; the reference is that of its lanes or elements, 0 if it has none
abbrev pub named_so : VariableKind → (attributes : Items) → (name value type : Bytes) → (reference : ℕ) → Members
named_so shown attributes name value type reference =
    member (codes "name") (string name)
    (member (codes "presentationHint") (hint shown attributes)
    (member (codes "type") (string type)
    (member (codes "value") (string value)
    (member (codes "variablesReference") (natural reference) no_members))))

-- a text, with the mark of a lane that is not active where it waits
abbrev pub marked_if : (waits : Bool) → Bytes → Bytes
marked_if true text = text ++ mark
marked_if false text = text

-- A variable of a kind. Behind the name and the value of a lane that is not active stands a mark, which its expression has not; of an array it is told how
-- many elements it has; and no expression shows a range of elements, or a lane of another expression.
abbrev pub variable_of : VariableKind → (attributes : Items) → (name value type : Bytes) → (reference : ℕ) → Data
variable_of kind.Plain attributes name value type reference = object (member (codes "evaluateName") (string name) (named_so kind.Plain attributes name value type reference))
variable_of kind.Waits attributes name value type reference = object (member (codes "evaluateName") (string name) (named_so kind.Waits attributes (name ++ mark) (value ++ mark) type reference))
variable_of (kind.Array elements) attributes name value type reference =
    object (member (codes "evaluateName") (string name) (member (codes "indexedVariables") (natural elements) (named_so (kind.Array elements) attributes name value type reference)))
variable_of kind.Range attributes name value type reference = object (named_so kind.Range attributes name value type reference)
variable_of (kind.Lane waits) attributes name value type reference = object (named_so (kind.Lane waits) attributes (marked_if waits name) (marked_if waits value) type reference)

-- a variable
abbrev pub variable : Variable → Data
variable shown = variable_of shown.kind (attributes shown.is_constant shown.is_read_only) (string_bytes shown.name) (string_bytes shown.value) (string_bytes shown.type_name) shown.reference

-- what an expression, or a line of the console, is answered: a text, and the reference of the lanes or elements of what is shown, 0 if it has none
abbrev pub evaluated : (text : Bytes) → (reference : ℕ) → Data
evaluated text reference = object (member (codes "result") (string text) (member (codes "variablesReference") (natural reference) no_members))

-- what a variable was set to: the value that it has then, and the reference of its lanes, by which they stay open, 0 if it has none
abbrev pub set_value : (value : Bytes) → (reference : ℕ) → Data
set_value value reference = object (member (codes "value") (string value) (member (codes "variablesReference") (natural reference) no_members))

-- a fault at which the program stands still: its number and name, its lane and what it means
abbrev pub exception : Exception → Data
exception shown = object
    (member (codes "breakMode") (string (codes "always"))
    (member (codes "description") (string (string_bytes shown.text))
    (member (codes "details") (only (codes "typeName") (string (string_bytes shown.name)))
    (member (codes "exceptionId") (string (string_bytes shown.name)) no_members))))

-- what a move is told: only the reply to `continue` has a member
abbrev pub moved : (command : Bytes) → Data
moved command = object (if same_text command (codes "continue") then member (codes "allThreadsContinued") (boolean true) no_members else no_members)

-- what a reply to a command tells of the program at a path
abbrev pub body_of : (command program : Bytes) → Reply → Data
body_of command program reply.Capabilities = capabilities
body_of command program (reply.Breakpoints asked) = only (codes "breakpoints") (array_of breakpoint asked.items)
body_of command program (reply.Locations lines) = only (codes "breakpoints") (array_of location lines.items)
body_of command program (reply.Targets line) = only (codes "targets") (array (times line))
body_of command program (reply.Completions shown) = only (codes "targets") (array_of completion shown.items)
body_of command program (reply.Watchable target) = watchable (string_bytes target)
body_of command program reply.NotWatchable = not_watchable
body_of command program (reply.Threads shown) = only (codes "threads") (array_of thread shown.items)
body_of command program (reply.Frames shown total) = frames program shown.items total
body_of command program (reply.Scopes shown) = only (codes "scopes") (scopes shown)
body_of command program (reply.Variables shown) = only (codes "variables") (array_of variable shown.items)
body_of command program (reply.Set text reference) = set_value (string_bytes text) reference
body_of command program (reply.Evaluated text reason reference) = evaluated (string_bytes text) reference
body_of command program (reply.Exception shown) = exception shown
body_of command program (reply.Moved stop) = moved command
body_of command program reply = object no_members

-- why a reply refuses its request, if it does
abbrev pub refusal : Reply → Option Bytes
refusal (reply.Refused text) = Some (string_bytes text)
refusal reply.OutOfMemory = Some (codes "out of memory")
refusal reply = None

-- the message that refuses a request, or tells what it is told
abbrev pub refused_or : (refusal : Option Bytes) → (seq request : ℕ) → (command : Bytes) → (body : Data) → Data
refused_or None seq request command body = response seq request command body
refused_or (Some text) seq request command body = failure seq request command text

-- the whole message of a reply
abbrev pub message_of : (seq request : ℕ) → (command program : Bytes) → Reply → Data
message_of seq request command program reply = refused_or (refusal reply) seq request command (body_of command program reply)

-- the number of the breakpoint or the watch at which the program stands still, before other members
abbrev pub hit_before : StopReason → Members → Members
hit_before (reason.Breakpoint number) others = member (codes "hitBreakpointIds") (array (item (natural number) no_items)) others
hit_before (reason.DataBreakpoint number) others = member (codes "hitBreakpointIds") (array (item (natural number) no_items)) others
hit_before reason others = others

-- what the event of a stop tells: why the thread that is shown first, and so each, stands still, and the debugger's text of it
abbrev pub stop_body : StopReason → (thread : ℕ) → (text : Bytes) → Data
stop_body reason thread text = object
    (member (codes "allThreadsStopped") (boolean true)
    (member (codes "description") (string text)
    (hit_before reason
    (member (codes "reason") (string (reason_text reason))
    (member (codes "text") (string text)
    (member (codes "threadId") (natural thread) no_members))))))

-- what the event of a change tells: the values of variables are to be asked for anew
abbrev pub change_body : Data
change_body = only (codes "areas") (array (item (string (codes "variables")) no_items))

-- what the event of an output tells: a text for the console
abbrev pub output_body : (text : Bytes) → Data
output_body text = object (member (codes "category") (string (codes "console")) (member (codes "output") (string text) no_members))
