-- Why a request is refused: the first of its arguments that is missing or of a wrong type.
use Rattle.std.specs.Prelude.{◌≡◌, Bool, true, false, List, [], ◌∷◌, Option, Some, None, codes, if◌then◌else◌, is_some}
use Rattle.serde_json.specs.Data.{Data}
use Rattle.serde_json.specs.Find.{pointer}
use Rattle.gang_model.specs.Texts.Text.{Bytes}
use Rattle.adapter_messages.specs.declared.names.Name.{Name}
use Rattle.adapter_messages.specs.declared.names.Name.TheVariants as name
use Rattle.adapter_messages.specs.declared.requests.RequestFault.{RequestFault}
use Rattle.adapter_messages.specs.declared.requests.RequestFault.TheVariants as fault
use Rattle.adapter_messages.specs.Names.{named}
use Rattle.adapter_messages.specs.Arguments.{flag_at, is_right, line_at, number_at, text_at, time_in}

-- the arguments of a launch that may be left out, and whether each is of the right type where it is there
abbrev pub launch_options : Data → List (Bytes × Bool)
launch_options message =
    (codes "input", is_right (text_at (codes "/arguments/input") message) (pointer (codes "/arguments/input") message))
    ∷ (codes "entry", is_right (text_at (codes "/arguments/entry") message) (pointer (codes "/arguments/entry") message))
    ∷ (codes "width", is_right (number_at (codes "/arguments/width") message) (pointer (codes "/arguments/width") message))
    ∷ (codes "history", is_right (number_at (codes "/arguments/history") message) (pointer (codes "/arguments/history") message))
    ∷ (codes "steps", is_right (number_at (codes "/arguments/steps") message) (pointer (codes "/arguments/steps") message))
    ∷ (codes "stopOnEntry", is_right (flag_at (codes "/arguments/stopOnEntry") message) (pointer (codes "/arguments/stopOnEntry") message))
    ∷ (codes "laneThreads", is_right (flag_at (codes "/arguments/laneThreads") message) (pointer (codes "/arguments/laneThreads") message))
    ∷ []

-- the arguments of a page, which may be left out too
abbrev pub page_options : Data → List (Bytes × Bool)
page_options message =
    (codes "start", is_right (number_at (codes "/arguments/start") message) (pointer (codes "/arguments/start") message))
    ∷ (codes "count", is_right (number_at (codes "/arguments/count") message) (pointer (codes "/arguments/count") message))
    ∷ (codes "filter", is_right (text_at (codes "/arguments/filter") message) (pointer (codes "/arguments/filter") message))
    ∷ []

-- which of the frames are asked for, which may be left out too
abbrev pub stack_options : Data → List (Bytes × Bool)
stack_options message =
    (codes "startFrame", is_right (number_at (codes "/arguments/startFrame") message) (pointer (codes "/arguments/startFrame") message))
    ∷ (codes "levels", is_right (number_at (codes "/arguments/levels") message) (pointer (codes "/arguments/levels") message))
    ∷ []

-- the frame in which something is looked for, which may be left out too
abbrev pub frame_options : Data → List (Bytes × Bool)
frame_options message = (codes "frameId", is_right (number_at (codes "/arguments/frameId") message) (pointer (codes "/arguments/frameId") message)) ∷ []

-- the variables among which something is looked for, and else the frame, both of which may be left out too
abbrev pub container_options : Data → List (Bytes × Bool)
container_options message =
    (codes "variablesReference", is_right (number_at (codes "/arguments/variablesReference") message) (pointer (codes "/arguments/variablesReference") message)) ∷ frame_options message

-- the arguments that a request of a name needs, in their order, and whether a message has each of the right type
abbrev pub needs : Name → Data → List (Bytes × Bool)
needs name.Launch message = (codes "program", is_some (text_at (codes "/arguments/program") message)) ∷ launch_options message
needs name.BreakpointLocations message = (codes "line", is_some (line_at (codes "/arguments/line") message)) ∷ []
needs name.GotoTargets message = (codes "line", is_some (line_at (codes "/arguments/line") message)) ∷ []
needs name.Goto message = (codes "targetId", is_some (time_in message)) ∷ []
needs name.DataBreakpointInfo message = (codes "name", is_some (text_at (codes "/arguments/name") message)) ∷ container_options message
needs name.StackTrace message = stack_options message
needs name.Scopes message = (codes "frameId", is_some (number_at (codes "/arguments/frameId") message)) ∷ []
needs name.Variables message = (codes "variablesReference", is_some (number_at (codes "/arguments/variablesReference") message)) ∷ page_options message
needs name.SetVariable message = (codes "variablesReference", is_some (number_at (codes "/arguments/variablesReference") message)) ∷ (codes "name", is_some (text_at (codes "/arguments/name") message)) ∷ (codes "value", is_some (text_at (codes "/arguments/value") message)) ∷ []
needs name.SetExpression message = (codes "expression", is_some (text_at (codes "/arguments/expression") message)) ∷ (codes "value", is_some (text_at (codes "/arguments/value") message)) ∷ frame_options message
needs name.Completions message = (codes "text", is_some (text_at (codes "/arguments/text") message)) ∷ (codes "column", is_some (number_at (codes "/arguments/column") message)) ∷ frame_options message
needs name.Evaluate message = (codes "expression", is_some (text_at (codes "/arguments/expression") message)) ∷ frame_options message
needs name message = []

-- the first that is not there
abbrev pub first_missing : List (Bytes × Bool) → Option Bytes
first_missing [] = None
first_missing (need ∷ others) = if need.1 then first_missing others else Some need.0

-- whether a request of a name has a list, for which memory is needed
abbrev pub has_list : Name → Bool
has_list name.SetBreakpoints = true
has_list name.SetFunctionBreakpoints = true
has_list name.SetDataBreakpoints = true
has_list name = false

-- a message that is a request of a name is refused
abbrev pub IsRefusedNamed : Name → Data → RequestFault → Type 0
IsRefusedNamed name message (fault.Argument argument) = first_missing (needs name message) ≡ Some argument.now
IsRefusedNamed name message fault.Memory = has_list name ≡ true

-- what is wrong with the arguments of a request whose name is known; one of another name has none
abbrev pub missing_of : Option Name → Data → Option Bytes
missing_of None message = None
missing_of (Some name) message = first_missing (needs name message)

-- the argument that a message with a command lacks
abbrev pub missing : (command : Bytes) → Data → Option Bytes
missing command message = missing_of (named command) message

-- a message with a command is refused
abbrev pub IsRefusedOf : Option Name → Data → RequestFault → Type 0
IsRefusedOf None message fault = ⊥
IsRefusedOf (Some name) message fault = IsRefusedNamed name message fault

abbrev pub IsRefused : (command : Bytes) → Data → RequestFault → Type 0
IsRefused command message fault = IsRefusedOf (named command) message fault

-- a fault names an argument
abbrev pub NamesArgument : (argument : Bytes) → RequestFault → Type 0
NamesArgument argument (fault.Argument named) = named.now ≡ argument
NamesArgument argument fault.Memory = ⊥
