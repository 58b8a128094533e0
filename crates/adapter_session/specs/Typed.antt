-- Lines of the console in the words of the prompt: each is done as the debugger's own line that it stands for.
use Rattle.std.specs.Borrow.{Bor}
use Rattle.std.specs.Prelude.{◌≡◌, ◌==◌, ◌||◌, ℕ, Bool, codes, is_some, length, Option, Some, None, if◌then◌else◌}
use Rattle.std.specs.Str.Lossy.{utf8_lossy}
use Rattle.gang_model.specs.Debugger.Debugger.{Debugger, Setting, depth, now}
use Rattle.gang_model.specs.Texts.CommandText.{command_of}
use Rattle.gang_model.specs.Texts.Text.{Bytes}
use Rattle.debug_traits.specs.Frames.{found_at}
use Rattle.prompt_lines.specs.declared.line.Kind.{Kind}
use Rattle.prompt_lines.specs.declared.line.Kind.TheVariants as kind
use Rattle.prompt_lines.specs.declared.line.Look.{Look}
use Rattle.prompt_lines.specs.declared.line.Look.TheVariants as look
use Rattle.prompt_lines.specs.Heads.{stripped}
use Rattle.prompt_lines.specs.Lines.{line_of}
use Rattle.prompt_lines.specs.Words.{is_alone}
use Rattle.adapter_requests.specs.declared.request.Context.TheVariants.{Console}
use Rattle.adapter_requests.specs.declared.request.Request.{Request}
use Rattle.adapter_requests.specs.declared.request.Request.TheVariants as request
use Rattle.adapter_replies.specs.Completions.{frame_or}
use Rattle.adapter_session.specs.declared.typed.Typed as declared
use Rattle.adapter_session.specs.Judged.{IsJudgedRequest}

-- ---- the debugger's own lines

-- a command line, where it spells a command
abbrev pub if_spelled : Bytes → Option Bytes
if_spelled text = if is_some (command_of text) then Some text else None

-- these words, where a command line is one word alone
abbrev pub if_alone : (words text : Bytes) → Option Bytes
if_alone words text = if is_alone text then Some words else None

-- these words, where nothing but blanks stands in a command line
abbrev pub if_blank : (words text : Bytes) → Option Bytes
if_blank words text = if length (stripped text) == 0 then Some words else None

-- the debugger's own line for what is looked at
abbrev pub own_look : Look → (text : Bytes) → Option Bytes
own_look look.Frames text = if_alone (codes "backtrace") text
own_look look.Locals text = if_blank (codes "info locals") text
own_look look.Arguments text = if_blank (codes "info args") text
own_look look.Help text = if_blank (codes "help") text
own_look other text = None

-- the debugger's own line for a command line that the prompt reads as of a kind; none where that is no command, or more than one
abbrev pub own_line : Kind → (text : Bytes) → Option Bytes
own_line kind.Own text = if_spelled text
own_line kind.Finish text = if_spelled text
own_line kind.Set text = if_spelled text
own_line kind.Break text = if_spelled text
own_line kind.Watch text = if_spelled text
own_line kind.Delete text = if_spelled text
own_line kind.Until text = if_alone (codes "next") text
own_line (kind.Look at) text = own_look at text
own_line other text = None

-- the debugger's own line for one that was typed, as the prompt reads it
abbrev pub own_of : (line : Bytes) → Option Bytes
own_of line = own_line (line_of line).kind (line_of line).text

-- that line as a text, else the one that was typed
abbrev pub or_typed : (own : Option Bytes) → (line : Bytes) → Bytes
or_typed None line = line
or_typed (Some own) line = utf8_lossy own

-- the line that is done for one that was typed: itself where it spells a command, or is the name of a variable
abbrev pub meant_line : (is_variable : Bool) → (line : Bytes) → Bytes
meant_line is_variable line = if is_variable || is_some (command_of line) then line else or_typed (own_of line) line

-- ---- lines that are typed

-- a line of the console, the frame in which it is looked up, and whether it asks for hexadecimal numbers
pub record Typed : Type 0 where
  pub line : Bytes
  pub frame : Option ℕ
  pub is_hexadecimal : Bool

-- the line that a request asks for in the console
abbrev pub typed_in : Request → Option Typed
typed_in (request.Evaluate expression frame Console is_hexadecimal) = Some (record { line = expression.now; frame = frame; is_hexadecimal = is_hexadecimal })
typed_in other = None

-- whether a line is the name of a variable that its frame finds
abbrev pub is_variable : Setting → Debugger → Typed → Bool
is_variable s d typed = is_some (found_at s.program (frame_or (depth (now s d)) typed.frame) (now s d) (stripped typed.line))

-- a request for this line of the console
pub record Asks (line : Bytes) (typed : Typed) (meant : Request) : Type 0 where
  pub expression : Bor Bytes
  pub text : expression.now ≡ line
  pub is : meant ≡ request.Evaluate expression typed.frame Console typed.is_hexadecimal

-- what is meant by a request in which a line was typed, or none
abbrev pub IsMeantBy : Setting → Debugger → Option Typed → Request → (meant : Request) → Type 0
IsMeantBy s d None request meant = IsJudgedRequest request meant
IsMeantBy s d (Some typed) request meant = Asks (meant_line (is_variable s d typed) typed.line) typed meant

-- what is meant by a request: a line of the console stands for the debugger's own, and breakpoints and watches are judged by their conditions
abbrev pub IsMeant : Setting → Debugger → Request → (meant : Request) → Type 0
IsMeant s d request meant = IsMeantBy s d (typed_in request) request meant

-- ---- as they are given

abbrev pub typed_view : declared.Typed → Typed
typed_view given = record { line = given.line.now; frame = given.frame; is_hexadecimal = given.is_hexadecimal }
