-- What each request is told.
use Rattle.std.specs.Prelude.{◌≡◌, ◌⊎◌, ℕ, Bool, true, false, not, ◌&&◌, ◌||◌, is_some, List, [], ◌∷◌, ◌++◌, length, map, codes, string_bytes, option_map, Option, Some, None}
use Rattle.std.specs.Str.Lossy.{utf8_lossy}
use Rattle.gang_model.specs.Running.State.{State}
use Rattle.gang_model.specs.Debugger.Debugger as model
use Rattle.gang_model.specs.Types.Tree.{Variable}
use Rattle.gang_model.specs.Debugger.Debugger.{Debugger, OutOfRange, Refusal, Setting, Target, bad_part, depth, has_ended, now, part_shown, target_words}
use Rattle.gang_model.specs.Texts.CommandText.{command_of}
use Rattle.gang_model.specs.Texts.Text.{Bytes, index_text}
use Rattle.debug_answers.specs.declared.answer.Answer.{Answer}
use Rattle.debug_answers.specs.declared.answer.Answer.TheVariants as answer
use Rattle.debug_answers.specs.declared.answer.Refusal.TheVariants as refusal
use Rattle.debug_answers.specs.Meanings.{Means}
use Rattle.debug_session.specs.Sessions.{is_refused}
use Rattle.debug_traits.specs.Frames.{found_at, listed_parameters_at}
use Rattle.frame_values.specs.declared.values.ExpressionValue.{ExpressionValue}
use Rattle.frame_values.specs.declared.values.NoValue.{NoValue}
use Rattle.frame_values.specs.Values.{HasNoValue, IsValueOf}
use Rattle.adapter_requests.specs.declared.reply.Breakpoint.{Breakpoint}
use Rattle.adapter_requests.specs.declared.reply.CallScopes.{CallScopes}
use Rattle.adapter_requests.specs.declared.reply.StopReason.{StopReason}
use Rattle.adapter_requests.specs.declared.reply.Reply.{Reply}
use Rattle.adapter_requests.specs.declared.reply.Reply.TheVariants as reply
use Rattle.adapter_requests.specs.declared.reply.Thread.{Thread}
use Rattle.adapter_requests.specs.declared.request.Context.{Context}
use Rattle.adapter_requests.specs.declared.request.Context.TheVariants.{Console, Watch}
use Rattle.adapter_requests.specs.declared.request.Request.{Request}
use Rattle.adapter_requests.specs.declared.request.Request.TheVariants as request
use Rattle.adapter_replies.specs.Exceptions.{no_fault}
use Rattle.adapter_replies.specs.Breakpoints.{IsWatchableTold, told_breakpoint, told_function, told_watch}
use Rattle.adapter_replies.specs.Columns.{front}
use Rattle.adapter_replies.specs.Completions.{ToldCompletion, completion_view, completions, frame_or}
use Rattle.adapter_replies.specs.Asking.{Asking, asking_of}
use Rattle.adapter_replies.specs.Console.{help_text, locals_text, parameters_text}
use Rattle.adapter_replies.specs.Expressions.{expression_text, is_memory, no_value_text, shown_in}
use Rattle.adapter_replies.specs.declared.forms.Form.{Form}
use Rattle.adapter_replies.specs.Forms.{form_if}
use Rattle.adapter_replies.specs.Frames.{ToldFrame, all_frames, asked_frames, frame_view}
use Rattle.adapter_replies.specs.declared.hints.Hinted.{Hinted}
use Rattle.adapter_replies.specs.Hints.{hinted_text}
use Rattle.adapter_replies.specs.Locations.{goto_line, told_places}
use Rattle.adapter_replies.specs.Opened.{opened, opened_by}
use Rattle.adapter_replies.specs.References.{depth_in, is_frame, place_of, within}
use Rattle.adapter_replies.specs.declared.console.Asked.{Asked}
use Rattle.adapter_replies.specs.declared.console.Asked.TheVariants as asked
use Rattle.adapter_replies.specs.declared.places.Place.{Place}
use Rattle.adapter_replies.specs.declared.places.Place.TheVariants as place
use Rattle.adapter_replies.specs.declared.places.Scope.TheVariants.{Locals, Arguments}
use Rattle.adapter_replies.specs.Meanings.{meaning_of, told_text, unset_text}
use Rattle.adapter_replies.specs.Stopped.{goto_reason, reason_of}
use Rattle.adapter_replies.specs.Targets.{set_by, target_in}
use Rattle.adapter_replies.specs.Variables.{ToldVariable, told_each, told_now, values, variable_view, words_at}
use Rattle.adapter_replies.specs.Watchable.{is_watchable_of}

-- the frames of a reply, and how many it says there are
abbrev pub told_frames : Reply → Option (List ToldFrame × ℕ)
told_frames (reply.Frames frames total) = Some (map frame_view frames.items, total)
told_frames other = None

-- what a request for frames is told: those that it asks for, and how many there are in all
abbrev pub AreFramesTold : (start levels : Option ℕ) → (all : List ToldFrame) → Reply → Type 0
AreFramesTold start levels all told = told_frames told ≡ Some (asked_frames start levels all, length all)

-- the number and the name of a thread
abbrev pub thread_view : Thread → ℕ × Bytes
thread_view thread = (thread.id, string_bytes thread.name)

-- the threads of a reply
abbrev pub told_threads : Reply → Option (List (ℕ × Bytes))
told_threads (reply.Threads threads) = Some (map thread_view threads.items)
told_threads other = None

-- what a request for threads is told: the one, which is the gang
abbrev pub AreThreadsTold : Reply → Type 0
AreThreadsTold told = told_threads told ≡ Some ((1, codes "gang") ∷ [])

-- the variables of a reply
abbrev pub told_variables : Reply → Option (List ToldVariable)
told_variables (reply.Variables variables) = Some (map variable_view variables.items)
told_variables other = None

-- the text of a stop with its reason, or of a refusal
abbrev pub told_stop : Reply → Option (Option StopReason × Bytes)
told_stop (reply.Moved stop) = Some (Some stop.reason, string_bytes stop.text)
told_stop (reply.Refused text) = Some (None, string_bytes text)
told_stop other = None

-- what a request for variables is told, or that there are none
abbrev pub AreVariablesTold : Option (List ToldVariable) → Reply → Type 0
AreVariablesTold None told = told_stop told ≡ Some (None, codes "nothing has this reference now")
AreVariablesTold (Some variables) told = told_variables told ≡ Some variables

-- what the references of a call stand for: those of its local variables and of its parameters
abbrev pub call_places : CallScopes → Place × Place
call_places call = (place_of call.locals, place_of call.arguments)

-- what the references of a reply stand for: those of a call, if there are some, and that of the variables of the file
abbrev pub told_scopes : Reply → Option (Option (Place × Place) × Place)
told_scopes (reply.Scopes shown) = Some (option_map call_places shown.call, place_of shown.file)
told_scopes other = None

-- what can be shown of the call of the frame at a depth; at the end of the program no function runs
abbrev pub call_scopes : (has_ended : Bool) → (depth : ℕ) → Option (Place × Place)
call_scopes true deep = None
call_scopes false deep = Some (within (place.Variables Locals deep), within (place.Variables Arguments deep))

-- a request for a frame that is not there is refused
abbrev pub IsNoFrame : Reply → Type 0
IsNoFrame told = told_stop told ≡ Some (None, codes "no frame has this number now")

-- what a request for the scopes of a frame is told
abbrev pub AreScopesTold : (is_frame has_ended : Bool) → (depth : ℕ) → Reply → Type 0
AreScopesTold false has_ended deep told = IsNoFrame told
AreScopesTold true has_ended deep told = told_scopes told ≡ Some (call_scopes has_ended deep, place.File)

-- the names of a reply that can stand in a text
abbrev pub told_completions : Reply → Option (List ToldCompletion)
told_completions (reply.Completions shown) = Some (map completion_view shown.items)
told_completions other = None

-- what a request for the names is told that can stand in a text, where the frame at a depth stands
abbrev pub AreCompletionsTold : (is_frame : Bool) → Setting → Debugger → (depth : ℕ) → (front : Bytes) → Reply → Type 0
AreCompletionsTold false s d deep front told = IsNoFrame told
AreCompletionsTold true s d deep front told = told_completions told ≡ Some (completions s d deep front)

-- the same in the frame of a number, or in the top one
abbrev pub AreCompletionsToldIn : Setting → Debugger → (depth : ℕ) → (front : Bytes) → Reply → Type 0
AreCompletionsToldIn s d deep front told = AreCompletionsTold (is_frame (depth (now s d)) deep) s d deep front told

-- the text of what was evaluated, with the reason of a stop
abbrev pub told_value : Reply → Option (Option StopReason × Bytes)
told_value (reply.Evaluated text reason reference) = Some (reason, string_bytes text)
told_value other = None

-- what can be opened of what was evaluated
abbrev pub told_place : Reply → Place
told_place (reply.Evaluated text reason reference) = place_of reference
told_place other = place.Nothing

-- the value of an expression where the frame at a depth stands
pub record IsValueShown (s : Setting) (d : Debugger) (deep : ℕ) (asking : Asking) (told : Reply) : Type 0 where
  pub found : ExpressionValue
  pub is : IsValueOf asking.text s d deep found
  pub shown : told_value told ≡ Some (None, shown_in asking.context (expression_text asking.form found))
  pub closed : told_place told ≡ place.Nothing

-- why a text has no value where the frame at a depth stands; that there is no memory for it is told otherwise
pub record IsNoValueShown (s : Setting) (d : Debugger) (deep : ℕ) (text : Bytes) (told : Reply) : Type 0 where
  pub why : NoValue
  pub is : HasNoValue text s d deep why
  pub other : is_memory why ≡ false
  pub shown : told_stop told ≡ Some (None, no_value_text why)

-- the text has no value there, and what to do in its place is told; that there is no memory for the value is told otherwise
pub record IsHintTold (s : Setting) (d : Debugger) (deep : ℕ) (text : Bytes) (hinted : Hinted) (told : Reply) : Type 0 where
  pub why : NoValue
  pub is : HasNoValue text s d deep why
  pub other : is_memory why ≡ false
  pub shown : told_stop told ≡ Some (None, hinted_text hinted why)

-- this text alone is told, and nothing opens
abbrev pub IsTold : Bytes → Reply → Type 0
IsTold text told = (told_value told ≡ Some (None, text)) × (told_place told ≡ place.Nothing)

-- what is told of a text that names no variable, by what it asks for: what can be typed, the parameters or the local variables of the frame at a depth, what to
-- do in place of a line that has no value, or the value of the expression that it spells
abbrev pub IsAskedTold : Asked → Setting → Debugger → (depth : ℕ) → Asking → Reply → Type 0
IsAskedTold asked.Help s d deep asking told = IsTold help_text told
IsAskedTold asked.Parameters s d deep asking told = IsTold (parameters_text (told_each asking.form s d deep (place.Parts Arguments deep) 0 (listed_parameters_at s d deep))) told
IsAskedTold asked.Locals s d deep asking told = IsTold (locals_text s d deep) told
IsAskedTold (asked.Words hinted) s d deep asking told = IsValueShown s d deep asking told ⊎ IsHintTold s d deep asking.text hinted told
IsAskedTold asked.Value s d deep asking told = IsValueShown s d deep asking told ⊎ IsNoValueShown s d deep asking.text told

abbrev pub IsExpressionTold : Setting → Debugger → (depth : ℕ) → Asking → Reply → Type 0
IsExpressionTold s d deep asking told = IsAskedTold asking.asked s d deep asking told

-- what is told of a target in the frame at a depth whose name finds a variable, by why it cannot be shown, if it cannot: its values, and what opens; past the
-- end a refusal; and where a variable has no parts the text is an expression
abbrev pub IsPartTold : Setting → Debugger → (depth : ℕ) → Asking → Target → Variable → Option Refusal → Reply → Type 0
IsPartTold s d deep asking target v None told =
    (told_value told ≡ Some (None, shown_in asking.context (values asking.form v.type (part_shown target.at (words_at s d deep v))))) × (told_place told ≡ opened s d deep target)
IsPartTold s d deep asking target v (Some OutOfRange) told = told_stop told ≡ Some (None, codes "C8 OutOfRange: " ++ meaning_of refusal.OutOfRange)
IsPartTold s d deep asking target v (Some other) told = IsExpressionTold s d deep asking told

-- the same by the variable that its name finds there; where it finds none the text is an expression
abbrev pub IsFoundTold : Setting → Debugger → (depth : ℕ) → Asking → Target → Option Variable → Reply → Type 0
IsFoundTold s d deep asking target None told = IsExpressionTold s d deep asking told
IsFoundTold s d deep asking target (Some v) told = IsPartTold s d deep asking target v (bad_part true target.at v.is_array v.rate (length (words_at s d deep v))) told

-- what is told of a text, by what `print` takes it for; where that is none the text is an expression
abbrev pub IsTargetTold : Setting → Debugger → (depth : ℕ) → Asking → Option Target → Reply → Type 0
IsTargetTold s d deep asking None told = IsExpressionTold s d deep asking told
IsTargetTold s d deep asking (Some target) told = IsFoundTold s d deep asking target (found_at s.program deep (now s d) target.name) told

-- what is told of a text in the frame of a number, if there is one: the values of the variable, the lane or the element that it names there, or the value of
-- the expression that it spells
abbrev pub IsNameToldIn : (is_frame : Bool) → Setting → Debugger → (depth : ℕ) → Asking → Reply → Type 0
IsNameToldIn false s d deep asking told = IsNoFrame told
IsNameToldIn true s d deep asking told = IsTargetTold s d deep asking (target_in asking.text) told

-- ---- values that were set in another frame than the top one

-- the value that a reply tells, as one that was set, which opens the same; any other reply as it is
abbrev pub as_set : Reply → Reply
as_set (reply.Evaluated text reason reference) = reply.Set text reference
as_set other = other

-- what can be opened of what was set
abbrev pub set_place : Reply → Place
set_place (reply.Set text reference) = place_of reference
set_place other = place.Nothing

-- what is told of a name that was set in the frame at a depth: the values that it has there then
pub record IsSetThereTold (s : Setting) (d : Debugger) (deep : ℕ) (name : Bytes) (is_hexadecimal : Bool) (told : Reply) : Type 0 where
  pub shown : Reply
  pub is : IsTargetTold s d deep (asking_of Watch name is_hexadecimal) (target_in name) shown
  pub told_is : told ≡ as_set shown

-- what was set in the top frame opens as what the answer to the line shows there
abbrev pub IsOpenedBy : Setting → Debugger → Option Answer → Reply → Type 0
IsOpenedBy s d None told = Unit {0}
IsOpenedBy s d (Some given) told = set_place told ≡ opened_by s d given

-- the same by the answer to the line, which says nothing where a value was set in another frame than the top one
abbrev pub IsGivenTold : Setting → Debugger → Option Answer → (depth : ℕ) → (name : Bytes) → (is_hexadecimal : Bool) → Reply → Type 0
IsGivenTold s d (Some answer.Silent) deep name is_hexadecimal told = IsSetThereTold s d deep name is_hexadecimal told
IsGivenTold s d other deep name is_hexadecimal told = IsOpenedBy s d other told

-- the target that a line of the console has set, of which nothing is said
abbrev pub set_unsaid : Answer → Context → (text : Bytes) → Option Target
set_unsaid answer.Silent Console text = set_by (command_of text)
set_unsaid other context text = None

-- TARGET = VALUES
abbrev pub named_text : Target → (values : Bytes) → Bytes
named_text target values = ((utf8_lossy target.name ++ index_text target.at) ++ codes " = ") ++ values

-- the values that a reply tells of a target are told with its name; any other reply as it is
abbrev pub IsNamedTold : Target → (shown told : Reply) → Type 0
IsNamedTold target (reply.Evaluated text reason reference) told = (told_value told ≡ Some (reason, named_text target (string_bytes text))) × (told_place told ≡ place_of reference)
IsNamedTold target other told = told ≡ other

-- alone where hexadecimal numbers are asked for, as they are told of the top frame
abbrev pub IsLineOf : (is_hexadecimal : Bool) → Target → (shown told : Reply) → Type 0
IsLineOf true target shown told = told ≡ shown
IsLineOf false target shown told = IsNamedTold target shown told

-- what a line of the console is told that has set a target in the frame at a depth: the values that it has there then
pub record IsSetLineTold (s : Setting) (d : Debugger) (deep : ℕ) (text : Bytes) (is_hexadecimal : Bool) (target : Target) (told : Reply) : Type 0 where
  pub shown : Reply
  pub is : IsTargetTold s d deep (asking_of Watch text is_hexadecimal) (Some target) shown
  pub told_is : IsLineOf is_hexadecimal target shown told

-- ---- texts that are evaluated

-- whether an answer says that a text names no variable
abbrev pub is_unnamed : Answer → Bool
is_unnamed (answer.Refused refusal.BadCommand) = true
is_unnamed (answer.Refused refusal.NoSuchName) = true
is_unnamed other = false

-- whether a text is a line of the console that spells a command
abbrev pub is_line : Context → (text : Bytes) → Bool
is_line Console text = is_some (command_of text)
is_line other text = false

-- whether a text is an expression, since `print` finds no variable by it
abbrev pub is_expression : Context → (text : Bytes) → Answer → Bool
is_expression context text given = is_unnamed given && not (is_line context text)

-- what is told of a text for which `print` was done in the top frame: what it asks for there, where it is an expression; else what the answer shows can be opened
abbrev pub IsPrinted : (is_expression : Bool) → Setting → Debugger → Asking → Answer → Reply → Type 0
IsPrinted true s d asking given told = IsTargetTold s d (depth (now s d)) asking (target_in asking.text) told
IsPrinted false s d asking given told = told_place told ≡ opened_by s d given

-- what is told of a text for which a command was done, by the target that it has set in another frame than the top one, if it has set one
abbrev pub IsDoneTold : Option Target → Setting → Debugger → (depth : ℕ) → Context → (text : Bytes) → (is_hexadecimal : Bool) → Answer → Reply → Type 0
IsDoneTold None s d deep context text is_hexadecimal given told = IsPrinted (is_expression context text given) s d (asking_of context text is_hexadecimal) given told
IsDoneTold (Some target) s d deep context text is_hexadecimal given told = IsSetLineTold s d deep text is_hexadecimal target told

-- what is told of an expression in the frame where it stands; for one in another frame than the top one no command was done, but one that sets a value there
abbrev pub IsLookedUp : Setting → Debugger → Option Answer → (frame : Option ℕ) → Context → (text : Bytes) → (is_hexadecimal : Bool) → Reply → Type 0
IsLookedUp s d (Some given) frame context text is_hexadecimal told =
    IsDoneTold (set_unsaid given context text) s d (frame_or (depth (now s d)) frame) context text is_hexadecimal given told
IsLookedUp s d None None context text is_hexadecimal told = told ≡ reply.Done
IsLookedUp s d None (Some frame) context text is_hexadecimal told = IsNameToldIn (is_frame (depth (now s d)) frame) s d frame (asking_of context text is_hexadecimal) told

-- what a request to set or to evaluate is told where a machine stands for a debugger
abbrev pub IsEvaluateTold : Setting → Debugger → (last : Option Answer) → Request → Reply → Type 0
IsEvaluateTold s d last (request.SetVariable reference name value is_hexadecimal) told = IsGivenTold s d last (depth_in (depth (now s d)) (place_of reference)) name.now is_hexadecimal told
IsEvaluateTold s d last (request.SetExpression expression value frame is_hexadecimal) told = IsGivenTold s d last (frame_or (depth (now s d)) frame) expression.now is_hexadecimal told
IsEvaluateTold s d last (request.Evaluate expression frame context is_hexadecimal) told = IsLookedUp s d last frame context expression.now is_hexadecimal told
IsEvaluateTold s d last other told = Unit {0}

-- what a request is told there that only looks
abbrev pub IsLookTold : Setting → Debugger → Request → Reply → Type 0
IsLookTold s d request.Threads told = AreThreadsTold told
IsLookTold s d (request.StackTrace thread start levels) told = AreFramesTold start levels (all_frames s.program (now s d).frames) told
IsLookTold s d (request.Scopes frame) told = AreScopesTold (is_frame (depth (now s d)) frame) (has_ended (now s d)) frame told
IsLookTold s d (request.Variables reference page is_hexadecimal) told = AreVariablesTold (told_now (form_if is_hexadecimal) page s d reference) told
IsLookTold s d (request.DataBreakpointInfo reference frame name) told = IsWatchableTold (is_watchable_of s d reference frame name.now) name.now told
IsLookTold s d (request.Completions text column frame) told = AreCompletionsToldIn s d (frame_or (depth (now s d)) frame) (front text.now column) told
IsLookTold s d other told = Unit {0}

-- what a request is told there
abbrev pub IsToldOf : Setting → Debugger → (last : Option Answer) → Request → Reply → Type 0
IsToldOf s d last (request.SetVariable reference name value is_hexadecimal) told = IsEvaluateTold s d last (request.SetVariable reference name value is_hexadecimal) told
IsToldOf s d last (request.SetExpression expression value frame is_hexadecimal) told = IsEvaluateTold s d last (request.SetExpression expression value frame is_hexadecimal) told
IsToldOf s d last (request.Evaluate expression frame context is_hexadecimal) told = IsEvaluateTold s d last (request.Evaluate expression frame context is_hexadecimal) told
IsToldOf s d last other told = IsLookTold s d other told

-- what a request is told that has the same reply always
abbrev pub fixed_reply : Request → Option Reply
fixed_reply (request.Initialize hears_invalidated) = Some reply.Capabilities
fixed_reply request.SetExceptionBreakpoints = Some reply.Done
fixed_reply request.ConfigurationDone = Some reply.Done
fixed_reply request.Terminate = Some reply.Done
fixed_reply request.Disconnect = Some reply.Done
fixed_reply other = None

-- why a request is refused that is of no use here, or not known
abbrev pub refusal_text : Request → Option Bytes
refusal_text (request.Launch launch) = Some (codes "the program is launched already")
refusal_text request.ExceptionInfo = Some no_fault
refusal_text request.Pause = Some (codes "the program stands still already: a move ends by itself")
refusal_text request.Restart = Some (codes "the program is launched already")
refusal_text (request.Unknown name) = Some (codes "no request " ++ name.now)
refusal_text other = None

-- ---- by the breakpoints and watches

-- the breakpoints of a reply
abbrev pub told_breakpoints : Reply → Option (List Breakpoint)
told_breakpoints (reply.Breakpoints made) = Some made.items
told_breakpoints other = None

-- the lines of a reply
abbrev pub told_locations : Reply → Option (List ℕ)
told_locations (reply.Locations lines) = Some lines.items
told_locations other = None

-- what a request for breakpoints or watches is told, each of them in order; and one for the lines on which there can be some, or to which the program can go
abbrev pub AreBreakpointsTold : Setting → Debugger → (is_program : Bool) → List (ℕ × model.Stop) → Request → Reply → Type 0
AreBreakpointsTold s d is_program stops (request.SetBreakpoints source lines) told = told_breakpoints told ≡ Some (map (told_breakpoint s is_program stops) lines.items)
AreBreakpointsTold s d is_program stops (request.SetFunctionBreakpoints functions) told = told_breakpoints told ≡ Some (map (told_function s stops) functions.items)
AreBreakpointsTold s d is_program stops (request.SetDataBreakpoints targets) told = told_breakpoints told ≡ Some (map (told_watch s d stops) targets.items)
AreBreakpointsTold s d is_program stops (request.BreakpointLocations source first last) told = told_locations told ≡ Some (told_places s is_program first last)
AreBreakpointsTold s d is_program stops (request.GotoTargets source line) told = told ≡ reply.Targets (goto_line s is_program line)
AreBreakpointsTold s d is_program stops other told = Unit {0}

-- ---- by the last answer

-- the last answer means one of the definitions, if there is one
abbrev pub MeansLast : Setting → Debugger → Option Answer → model.Answer → Type 0
MeansLast s d None meant = Unit {0}
MeansLast s d (Some given) meant = Means s d given meant

-- whether an answer refuses to move since the program has ended
abbrev pub is_ended : Answer → Bool
is_ended (answer.Refused refusal.Ended) = true
is_ended other = false

abbrev pub IsStopTold : (is_ended : Bool) → Answer → Bytes → Reply → Type 0
IsStopTold true given text told = told ≡ reply.Ended
IsStopTold false given text told = told_stop told ≡ Some (reason_of given, told_text given text)

-- what a move is told, with the text of its answer
abbrev pub IsMoveTold : Option Answer → Bytes → Reply → Type 0
IsMoveTold None text told = told ≡ reply.Done
IsMoveTold (Some given) text told = IsStopTold (is_ended given) given text told

-- what a request to go to a line is told, with the text of its answer
abbrev pub IsGotoTold : Option Answer → Bytes → Reply → Type 0
IsGotoTold None text told = told ≡ reply.Done
IsGotoTold (Some given) text told = told_stop told ≡ Some (goto_reason given, told_text given text)

-- what a request to set a variable is told: its values, or why it was not set, with what that means; no command is done for one of no frame. What was set in another frame than
-- the top one is told by what stands there.
abbrev pub IsSetTold : Option Answer → (text values : Bytes) → Reply → Type 0
IsSetTold None text values told = told_stop told ≡ Some (None, codes "only a variable of a frame or of the file can be set")
IsSetTold (Some answer.Silent) text values told = Unit {0}
IsSetTold (Some (answer.Shows target shown)) text values (reply.Set value reference) = string_bytes value ≡ values
IsSetTold (Some (answer.Shows target shown)) text values told = ⊥
IsSetTold (Some given) text values told = told_stop told ≡ Some (None, unset_text given text)

-- this text of an answer, with the reason of its stop, or as a refusal
abbrev pub IsTextTold : (is_refused : Bool) → Answer → (shown : Bytes) → Reply → Type 0
IsTextTold true given shown told = told_stop told ≡ Some (None, shown)
IsTextTold false given shown told = told_value told ≡ Some (reason_of given, shown)

-- what a line of the console is told, with the text of its answer
abbrev pub IsLineTold : Answer → (text : Bytes) → Reply → Type 0
IsLineTold given text told = IsTextTold (is_refused given) given (told_text given text) told

-- what the name of a variable is told: its values, or why there are none
abbrev pub IsValueTold : Context → Answer → (text values : Bytes) → Reply → Type 0
IsValueTold context (answer.Shows target shown) text values told = told_value told ≡ Some (None, shown_in context values)
IsValueTold context given text values told = IsLineTold given text told

-- whether the answer to a line is told as it is: in the console, where no hexadecimal numbers are asked for
abbrev pub is_told_whole : Context → (is_hexadecimal : Bool) → Bool
is_told_whole Console is_hexadecimal = not is_hexadecimal
is_told_whole other is_hexadecimal = false

-- an answer is told as it is, or the values that it shows
abbrev pub IsAnswerTold : (is_whole : Bool) → Context → Answer → (text values : Bytes) → Reply → Type 0
IsAnswerTold true context given text values told = IsLineTold given text told
IsAnswerTold false context given text values told = IsValueTold context given text values told

-- whether what is told of a text is said by what stands, and not by the answer to its line: of an expression, and of a value in another frame than the top one
abbrev pub is_told_there : Context → (text : Bytes) → Answer → Bool
is_told_there context text given = is_some (set_unsaid given context text) || is_expression context text given

-- what a request to evaluate is told by the answer to its line, where that says it
abbrev pub IsAnsweredIn : (is_told_there : Bool) → Context → (is_hexadecimal : Bool) → Answer → (text values : Bytes) → Reply → Type 0
IsAnsweredIn true context is_hexadecimal given text values told = Unit {0}
IsAnsweredIn false context is_hexadecimal given text values told = IsAnswerTold (is_told_whole context is_hexadecimal) context given text values told

-- what a request to evaluate is told by an answer
abbrev pub IsEvaluated : Context → (expression : Bytes) → (is_hexadecimal : Bool) → Option Answer → (text values : Bytes) → Reply → Type 0
IsEvaluated context expression is_hexadecimal None text values told = Unit {0}
IsEvaluated context expression is_hexadecimal (Some given) text values told = IsAnsweredIn (is_told_there context expression given) context is_hexadecimal given text values told

-- the values that an answer shows, in a form
abbrev pub shown_values : State → model.Answer → Form → Bytes
shown_values state (model.Shows target v) form = values form v.type (target_words state target v)
shown_values state other form = []

-- whether an answer shows values
abbrev pub has_values : Answer → Bool
has_values (answer.Shows target shown) = true
has_values other = false

-- these values, if an answer shows some
abbrev pub shown_option : Answer → (values : Bytes) → Option Bytes
shown_option (answer.Shows target shown) values = Some values
shown_option other values = None

-- what a request to set or to evaluate is told by the last answer, with its text and the values that it shows in a form
abbrev pub IsValueAnswered : Option Answer → (text : Bytes) → (values : Form → Bytes) → Request → Reply → Type 0
IsValueAnswered last text values (request.SetVariable reference name value is_hexadecimal) told = IsSetTold last text (values (form_if is_hexadecimal)) told
IsValueAnswered last text values (request.SetExpression expression value frame is_hexadecimal) told = IsSetTold last text (values (form_if is_hexadecimal)) told
IsValueAnswered last text values (request.Evaluate expression frame context is_hexadecimal) told = IsEvaluated context expression.now is_hexadecimal last text (values (form_if is_hexadecimal)) told
IsValueAnswered last text values other told = Unit {0}

-- what a request is told by the last answer
abbrev pub IsAnswered : Option Answer → (text : Bytes) → (values : Form → Bytes) → Request → Reply → Type 0
IsAnswered last text values request.Next told = IsMoveTold last text told
IsAnswered last text values request.StepIn told = IsMoveTold last text told
IsAnswered last text values request.StepOut told = IsMoveTold last text told
IsAnswered last text values request.Continue told = IsMoveTold last text told
IsAnswered last text values request.StepBack told = IsMoveTold last text told
IsAnswered last text values request.ReverseContinue told = IsMoveTold last text told
IsAnswered last text values (request.Goto line way) told = IsGotoTold last text told
IsAnswered last text values other told = IsValueAnswered last text values other told
