-- The requests that put breakpoints or watches in place of others: what they ask for.
use Rattle.std.specs.Prelude.{ℕ, Bool, not, count_by, List, [], ◌∷◌, flat_map, map, Option, Some, None, Result, Ok, Err, is_some, option_map, if◌then◌else◌}
use Rattle.std.specs.Borrow.{Bor}
use Rattle.gang_model.specs.Debugger.Debugger.{Debugger, Setting, Stop, least_from, step_lines}
use Rattle.gang_model.specs.Types.Tree.{Program}
use Rattle.gang_model.specs.Texts.Text.{Bytes}
use Rattle.debug_session.specs.Sessions.{bare}
use Rattle.adapter_requests.specs.declared.reply.BreakpointFault.{BreakpointFault}
use Rattle.adapter_requests.specs.declared.request.DataBreakpoint.{DataBreakpoint}
use Rattle.adapter_requests.specs.declared.request.FunctionBreakpoint.{FunctionBreakpoint}
use Rattle.adapter_requests.specs.declared.request.LineBreakpoint.{LineBreakpoint}
use Rattle.adapter_requests.specs.declared.request.Request.{Request}
use Rattle.adapter_requests.specs.declared.request.Request.TheVariants as request
use Rattle.adapter_replies.specs.Breakpoints.{is_watchable}
use Rattle.function_lines.specs.Lines.{function_line}
use Rattle.adapter_session.specs.declared.changes.Asked.{Asked as GivenAsked}
use Rattle.adapter_session.specs.declared.changes.Change.{Change as GivenChange}
use Rattle.adapter_session.specs.declared.lines.Kind.{Kind}
use Rattle.adapter_session.specs.declared.lines.Kind.TheVariants.{Functions, Lines, Watches}
use Rattle.adapter_session.specs.Requested.{is_program, test_of}

-- the text of a condition that may be there
abbrev pub text_of : Option (Bor Bytes) → Option Bytes
text_of text = option_map (λ t. t.now) text

-- what is asked for a breakpoint or a watch: the text of its condition, if it has one, how many of its stops are passed first, the message
-- that it writes in place of stopping, if it does, and the name of the function that it is of, if it is of one
pub record Asked : Type 0 where
  pub condition : Option Bytes
  pub passes : ℕ
  pub log : Option Bytes
  pub name : Option Bytes

abbrev pub asked_view : GivenAsked → Asked
asked_view asked = record { condition = text_of asked.condition; passes = asked.passes; log = text_of asked.log; name = text_of asked.name }

-- none or one in a list
abbrev pub listed : Option Asked → List Asked
listed None = []
listed (Some asked) = asked ∷ []

-- what an entry asks for where its stop can stand
abbrev pub if_stands : (stands : Bool) → Asked → List Asked
if_stands stands asked = if stands then asked ∷ [] else []

-- whether a breakpoint can stand on a line or behind it
abbrev pub can_stand : Setting → (line : ℕ) → Bool
can_stand s line = is_some (least_from line (step_lines s.program))

-- what is asked for on a line, on a function that is there, and of what can be watched
abbrev pub of_line : Setting → Result LineBreakpoint BreakpointFault → List Asked
of_line s (Err why) = []
of_line s (Ok b) = if_stands (can_stand s b.line) (record { condition = text_of b.condition; passes = b.passes; log = text_of b.log; name = None })

abbrev pub of_function : Program → Result FunctionBreakpoint BreakpointFault → List Asked
of_function p (Err why) = []
of_function p (Ok b) = if_stands (is_some (function_line p b.name.now)) (record { condition = text_of b.condition; passes = b.passes; log = None; name = Some b.name.now })

abbrev pub of_watch : Setting → Debugger → Result DataBreakpoint BreakpointFault → List Asked
of_watch s d (Err why) = []
of_watch s d (Ok b) = if_stands (is_watchable s d b.target.now) (record { condition = text_of b.condition; passes = b.passes; log = None; name = None })

-- a request that puts stops of a kind in place of those that there are: how many others stay, and what is asked for those that can stand
pub record Change : Type 0 where
  pub staying : ℕ
  pub asked : List Asked

abbrev pub change_view : GivenChange → Change
change_view change = record { staying = change.staying; asked = map asked_view change.asked.items }

-- how many stops stay where those of a kind go
abbrev pub staying : Kind → (functions : List ℕ) → List (ℕ × Stop) → ℕ
staying kind functions stops = count_by (λ entry. not (test_of kind functions entry)) stops

abbrev pub change : Kind → (functions : List ℕ) → List (ℕ × Stop) → List Asked → Change
change kind functions stops asked = record { staying = staying kind functions stops; asked = asked }

-- what a request changes so, if it does, where a debugger stands before it
abbrev pub change_of : Setting → (program : Bytes) → (functions : List ℕ) → Debugger → Request → Option Change
change_of s program functions d (request.SetBreakpoints source lines) = if is_program program source then Some (change Lines functions d.stops (flat_map (of_line s) lines.items)) else None
change_of s program functions d (request.SetFunctionBreakpoints asked) = Some (change Functions functions d.stops (flat_map (of_function s.program) asked.items))
change_of s program functions d (request.SetDataBreakpoints targets) = Some (change Watches functions d.stops (flat_map (of_watch s (bare d)) targets.items))
change_of s program functions d other = None
