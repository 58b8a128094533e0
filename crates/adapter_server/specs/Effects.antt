-- What a line of the console does besides what it tells: it sets a value, or ends the session.
use Rattle.std.specs.Prelude.{ℕ, Bool, true, false, not, ◌&&◌, Option, Some, None, if◌then◌else◌, is_some}
use Rattle.gang_model.specs.Debugger.Debugger.{Command, Debugger, DoQuit, DoSet, Setting, depth, now}
use Rattle.gang_model.specs.Texts.CommandText.{command_of}
use Rattle.gang_model.specs.Texts.Text.{Bytes}
use Rattle.debug_traits.specs.Frames.{found_at}
use Rattle.prompt_lines.specs.declared.line.Kind.{Kind}
use Rattle.prompt_lines.specs.declared.line.Kind.TheVariants as kind
use Rattle.prompt_lines.specs.Heads.{stripped}
use Rattle.prompt_lines.specs.Lines.{line_of}
use Rattle.prompt_lines.specs.Words.{Spelled}
use Rattle.adapter_requests.specs.declared.request.Context.TheVariants.{Console}
use Rattle.adapter_requests.specs.declared.request.Request.{Request}
use Rattle.adapter_requests.specs.declared.request.Request.TheVariants as request
use Rattle.adapter_replies.specs.Completions.{frame_or}
use Rattle.adapter_server.specs.declared.effects.Effect.{Effect}
use Rattle.adapter_server.specs.declared.effects.Effect.TheVariants as effect

-- what a command does, if there is one
abbrev pub effect_of : Option Command → Effect
effect_of (Some (DoSet target z)) = effect.Sets
effect_of (Some DoQuit) = effect.Quits
effect_of other = effect.Tells

-- whether a line that the prompt reads as of a kind is a command line of the debugger
abbrev pub is_command_line : Kind → Bool
is_command_line kind.Own = true
is_command_line kind.Finish = true
is_command_line kind.Set = true
is_command_line kind.Break = true
is_command_line kind.Watch = true
is_command_line kind.Delete = true
is_command_line other = false

-- what a line does that the prompt reads so
abbrev pub effect_read : Spelled → Effect
effect_read read = if is_command_line read.kind then effect_of (command_of read.text) else effect.Tells

-- what a line does in the debugger's words, and else in the prompt's
abbrev pub effect_or : Option Command → (read : Spelled) → Effect
effect_or None read = effect_read read
effect_or (Some command) read = effect_of (Some command)

abbrev pub line_effect : (line : Bytes) → Effect
line_effect line = effect_or (command_of line) (line_of line)

abbrev pub sets : Effect → Bool
sets effect.Sets = true
sets other = false

abbrev pub quits : Effect → Bool
quits effect.Quits = true
quits other = false

-- ---- requests

-- whether a request asks for a value to be set
abbrev pub asks_to_set : Request → Bool
asks_to_set (request.SetVariable reference name value is_hexadecimal) = true
asks_to_set (request.SetExpression expression value frame is_hexadecimal) = true
asks_to_set (request.Evaluate line frame Console is_hexadecimal) = sets (line_effect line.now)
asks_to_set other = false

-- whether a line is the name of a variable that its frame finds
abbrev pub is_variable : Setting → Debugger → (line : Bytes) → (frame : Option ℕ) → Bool
is_variable s d line frame = is_some (found_at s.program (frame_or (depth (now s d)) frame) (now s d) (stripped line))

-- whether a request ends the session: a line of the console by which the prompt is left does, unless it is the name of a variable
abbrev pub asks_to_end : Setting → Debugger → Request → Bool
asks_to_end s d request.Terminate = true
asks_to_end s d (request.Evaluate line frame Console is_hexadecimal) = quits (line_effect line.now) && not (is_variable s d line.now frame)
asks_to_end s d other = false
