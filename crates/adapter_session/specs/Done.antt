-- What a request comes to: with no condition, no count and no message its commands; with some, a program that goes on does so to a stop
-- that counts, and breakpoints with a message have written their texts on the way.
use Rattle.std.specs.Prelude.{◌≡◌, ℕ, Bool, Option, Some, None, if◌then◌else◌}
use Rattle.gang_model.specs.Debugger.Debugger as model
use Rattle.gang_model.specs.Debugger.Debugger.{Command, Debugger, DoContinue, DoReverseContinue, Setting, now}
use Rattle.gang_model.specs.Texts.CommandText.{command_of}
use Rattle.gang_model.specs.Texts.Text.{Bytes}
use Rattle.debug_answers.specs.Meanings.{Means}
use Rattle.debug_session.specs.declared.session.Session.{Session}
use Rattle.debug_session.specs.Sessions.{StandsFor, bare}
use Rattle.debug_traits.specs.Frames.{spot_at}
use Rattle.command_lists.specs.Lists.{HasDone}
use Rattle.conditional_stops.specs.declared.going.Direction.{Direction}
use Rattle.conditional_stops.specs.declared.going.Direction.TheVariants.{Forward, Backward}
use Rattle.conditional_stops.specs.declared.going.MoveEnd.{MoveEnd}
use Rattle.conditional_stops.specs.declared.going.MoveEnd.TheVariants as end
use Rattle.conditional_stops.specs.declared.judging.Verdict.{Verdict}
use Rattle.conditional_stops.specs.Going.{answer_of}
use Rattle.conditional_stops.specs.Tables.{is_nothing}
use Rattle.log_points.specs.declared.going.WroteOn.{WroteOn}
use Rattle.log_points.specs.Going.{WritesOn}
use Rattle.log_points.specs.Points.{no_text, written_of}
use Rattle.adapter_requests.specs.declared.reply.Reply.{Reply}
use Rattle.adapter_requests.specs.declared.request.Request.{Request}
use Rattle.adapter_requests.specs.declared.request.Request.TheVariants as request
use Rattle.adapter_replies.specs.Ends.{IsToldAtEnd}
use Rattle.adapter_session.specs.declared.answering.Answered.{Answered}
use Rattle.adapter_session.specs.Answered.{IsTold, MayTell}
use Rattle.adapter_session.specs.Changes.{change_of}
use Rattle.adapter_session.specs.Requested.{commands_of, is_console}
use Rattle.adapter_session.specs.Restored.{numbers}
use Rattle.adapter_session.specs.Terms.{Terms, changed_by, function_numbers, noted}
use Rattle.adapter_session.specs.Typed.{IsMeant}

-- the most stops that are passed for one request
abbrev pub most : ℕ
most = 1000000

-- which way a command goes on
abbrev pub way_of_command : Option Command → Option Direction
way_of_command (Some DoContinue) = Some Forward
way_of_command (Some DoReverseContinue) = Some Backward
way_of_command command = None

-- which way a line of the console goes on
abbrev pub way_of_line : (is_console : Bool) → Bytes → Option Direction
way_of_line is_console text = if is_console then way_of_command (command_of text) else None

-- which way a request goes on
abbrev pub way_of : Request → Option Direction
way_of request.Continue = Some Forward
way_of request.ReverseContinue = Some Backward
way_of (request.Evaluate expression frame context is_hexadecimal) = way_of_line (is_console context) expression.now
way_of other = None

-- the same where a condition, a count or a message is there
abbrev pub way_by : Terms → Request → Option Direction
way_by terms request = if is_nothing terms.left then None else way_of request

-- the conditions, counts and messages after a request, by the debuggers before and after it
abbrev pub terms_after : Setting → (program : Bytes) → (before after : Debugger) → Request → Terms → Terms
terms_after s program d e request terms = changed_by (change_of s program (function_numbers terms) d request) (numbers e.stops) terms

-- what the condition came to of a stop that counts
abbrev pub verdict_of : MoveEnd → Option Verdict
verdict_of (end.Stopped counted) = counted.verdict
verdict_of ended = None

-- what a request is told: as its commands are, but where the program has ended its frames are that of the end
pub record IsToldAfter {M : Type 0} (stands : M → Setting → Debugger → Type 0) (s : Setting) (program : Bytes) (request : Request) (d : Debugger) (terms : Terms) (told : Reply) (session : Session M) : Type 0 where
  pub reply : Reply
  pub by_commands : IsTold stands s program (function_numbers terms) request d reply session
  pub at_end : (e : Debugger) → StandsFor stands session s e → IsToldAtEnd s (bare e) terms.entry request reply told

-- the commands of a request were done, and nothing else
pub record DoesPlainly {M : Type 0} (stands : M → Setting → Debugger → Type 0) (s : Setting) (program : Bytes) (request : Request) (d : Debugger) (terms : Terms) (answered : Answered) (session : Session M) (new : Terms) : Type 0 where
  pub done : HasDone stands s (commands_of program (function_numbers terms) s d request) d session
  pub told : IsToldAfter stands s program request d terms answered.reply session
  pub verdict : answered.verdict ≡ None
  pub silent : written_of answered.written ≡ no_text
  pub terms_are : (e : Debugger) → StandsFor stands session s e → new ≡ terms_after s program d e request terms

-- the session has gone on to a stop that counts, or to what else ended that, texts were written on the way, and the request is told that
-- answer
pub record GoesToStop {M : Type 0} (stands : M → Setting → Debugger → Type 0) (s : Setting) (program : Bytes) (request : Request) (way : Direction) (d : Debugger) (terms : Terms) (answered : Answered) (session : Session M) (new : Terms) : Type 0 where
  pub wrote : WroteOn
  pub goes : WritesOn stands s way most d terms.logs terms.left terms.log_left wrote session new.left new.log_left
  pub asked : new.asked ≡ terms.asked
  pub logs : new.logs ≡ terms.logs
  pub functions : new.functions ≡ terms.functions
  pub entry : new.entry ≡ terms.entry
  pub written : answered.written ≡ wrote.written
  pub after : Debugger
  pub there : StandsFor stands session s after
  pub meant : model.Answer
  pub means : Means s after (answer_of wrote.moved.end) meant
  pub tells : MayTell s program after (Some (answer_of wrote.moved.end)) meant request answered.reply
  pub verdict : answered.verdict ≡ verdict_of wrote.moved.end

-- what a request comes to, by which way it goes on
abbrev pub DoesBy : {M : Type 0} → (M → Setting → Debugger → Type 0) → Option Direction → Setting → (program : Bytes) → Request → Debugger → Terms → Answered → Session M → (new : Terms) → Type 0
DoesBy stands None s program request d terms answered session new = DoesPlainly stands s program request d terms answered session new
DoesBy stands (Some way) s program request d terms answered session new = GoesToStop stands s program request way d terms answered session new

-- the same of a request as it stands
abbrev pub DoesMeant : {M : Type 0} → (M → Setting → Debugger → Type 0) → Setting → (program : Bytes) → Request → Debugger → Terms → Answered → Session M → (new : Terms) → Type 0
DoesMeant stands s program request d terms answered session new = DoesBy stands (way_by terms request) s program request d terms answered session new

-- what is meant by a request was done: a line of the console in the words of the prompt is done as the debugger's own, and a breakpoint is refused whose
-- condition is no expression
pub record DoesRead {M : Type 0} (stands : M → Setting → Debugger → Type 0) (s : Setting) (program : Bytes) (request : Request) (d : Debugger) (terms : Terms) (answered : Answered) (session : Session M) (new : Terms) : Type 0 where
  pub meant : Request
  pub is : IsMeant s d request meant
  pub does : DoesMeant stands s program meant d terms answered session new

-- the same, and it is noted in which function the program began, by where it stood before
pub record DoesRequest {M : Type 0} (stands : M → Setting → Debugger → Type 0) (s : Setting) (program : Bytes) (request : Request) (d : Debugger) (terms : Terms) (answered : Answered) (session : Session M) (new : Terms) : Type 0 where
  pub after : Terms
  pub does : DoesRead stands s program request d terms answered session after
  pub is_noted : new ≡ noted (spot_at s.program 1 (now s d)) after
