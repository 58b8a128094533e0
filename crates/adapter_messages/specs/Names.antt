-- The names of the requests that are known.
use Rattle.std.specs.Prelude.{List, [], ◌∷◌, Option, Some, None, codes, if◌then◌else◌}
use Rattle.std.specs.Borrow.{Bor}
use Rattle.gang_model.specs.Source.Names.{same_text}
use Rattle.gang_model.specs.Texts.Text.{Bytes}
use Rattle.adapter_messages.specs.declared.names.Name.{Name}
use Rattle.adapter_messages.specs.declared.names.Name.TheVariants as name

-- a command and its request
abbrev pub pair_view : Bor Bytes × Name → Bytes × Name
pair_view pair = (pair.0.now, pair.1)

-- the commands of the protocol that are known
abbrev pub names : List (Bytes × Name)
names =
    (codes "initialize", name.Initialize)
    ∷ (codes "launch", name.Launch)
    ∷ (codes "setBreakpoints", name.SetBreakpoints)
    ∷ (codes "setFunctionBreakpoints", name.SetFunctionBreakpoints)
    ∷ (codes "breakpointLocations", name.BreakpointLocations)
    ∷ (codes "gotoTargets", name.GotoTargets)
    ∷ (codes "goto", name.Goto)
    ∷ (codes "setExceptionBreakpoints", name.SetExceptionBreakpoints)
    ∷ (codes "exceptionInfo", name.ExceptionInfo)
    ∷ (codes "dataBreakpointInfo", name.DataBreakpointInfo)
    ∷ (codes "setDataBreakpoints", name.SetDataBreakpoints)
    ∷ (codes "configurationDone", name.ConfigurationDone)
    ∷ (codes "threads", name.Threads)
    ∷ (codes "stackTrace", name.StackTrace)
    ∷ (codes "scopes", name.Scopes)
    ∷ (codes "variables", name.Variables)
    ∷ (codes "setVariable", name.SetVariable)
    ∷ (codes "setExpression", name.SetExpression)
    ∷ (codes "completions", name.Completions)
    ∷ (codes "evaluate", name.Evaluate)
    ∷ (codes "next", name.Next)
    ∷ (codes "stepIn", name.StepIn)
    ∷ (codes "stepOut", name.StepOut)
    ∷ (codes "continue", name.Continue)
    ∷ (codes "stepBack", name.StepBack)
    ∷ (codes "reverseContinue", name.ReverseContinue)
    ∷ (codes "pause", name.Pause)
    ∷ (codes "restart", name.Restart)
    ∷ (codes "terminate", name.Terminate)
    ∷ (codes "disconnect", name.Disconnect)
    ∷ []

-- the first request of a command in a list
abbrev pub find_named : List (Bytes × Name) → Bytes → Option Name
find_named [] command = None
find_named (pair ∷ pairs) command = if same_text pair.0 command then Some pair.1 else find_named pairs command

-- the request of a command, if it is known
abbrev pub named : Bytes → Option Name
named command = find_named names command
