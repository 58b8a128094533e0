-- What a request is told, once its commands are done.
use Rattle.std.specs.Prelude.{◌≡◌, ◌⊎◌, ℕ, Bool, false, IfSome, List, Option, Some, None}
use Rattle.gang_model.specs.Debugger.Debugger as model
use Rattle.gang_model.specs.Debugger.Debugger.{Debugger, DoBreak, Setting, depth, do_command, now}
use Rattle.gang_model.specs.Texts.Text.{Bytes, text}
use Rattle.debug_answers.specs.declared.answer.Answer.{Answer}
use Rattle.debug_session.specs.declared.session.Session.{Session}
use Rattle.debug_session.specs.Sessions.{StandsFor, bare}
use Rattle.adapter_requests.specs.declared.reply.Reply.{Reply}
use Rattle.adapter_requests.specs.declared.reply.Reply.TheVariants as reply
use Rattle.adapter_requests.specs.declared.request.Request.{Request}
use Rattle.adapter_requests.specs.declared.request.Request.TheVariants as request
use Rattle.adapter_requests.specs.declared.request.Way.{Way}
use Rattle.debug_answers.specs.Meanings.{Means}
use Rattle.adapter_replies.specs.Told.{AreBreakpointsTold, IsAnswered, IsToldOf, MeansLast, fixed_reply, refusal_text, shown_values, told_stop}
use Rattle.adapter_session.specs.Doing.{DoesLinesIn}
use Rattle.adapter_session.specs.Going.{goto_of, goto_reply, is_at, made_number, reached}
use Rattle.adapter_session.specs.Requested.{frame_of, is_program, lines_of}

-- whether a request is of breakpoints in the program's source
abbrev pub is_source_of : (program : Bytes) → Request → Bool
is_source_of program (request.SetBreakpoints source lines) = is_program program source
is_source_of program (request.BreakpointLocations source first last) = is_program program source
is_source_of program (request.GotoTargets source line) = is_program program source
is_source_of program other = false

-- what a request is told where a debugger stands after its commands, by the last answer and what it means; what a machine shows is said of the debugger
-- without its breakpoints and watches
pub record Tells (s : Setting) (program : Bytes) (d : Debugger) (last : Option Answer) (meant : model.Answer) (request : Request) (told : Reply) : Type 0 where
  pub stands : IsToldOf s (bare d) last request told
  pub answered : IsAnswered last (text s meant d) (shown_values (now s d) meant) request told
  pub breakpoints : AreBreakpointsTold s (bare d) (is_source_of program request) d.stops request told
  pub fixed : IfSome (fixed_reply request) (λ reply. told ≡ reply)
  pub refused : IfSome (refusal_text request) (λ text. told_stop told ≡ Some (None, text))

-- what a request is told, or that there is no memory to tell it
abbrev pub MayTell : Setting → (program : Bytes) → Debugger → Option Answer → model.Answer → Request → Reply → Type 0
MayTell s program d last meant request told = (told ≡ reply.OutOfMemory) ⊎ Tells s program d last meant request told

-- the lines of a request were done, and it is told what its last answer means where the session stands for a debugger after them
pub record IsToldByLines {M : Type 0} (stands : M → Setting → Debugger → Type 0) (s : Setting) (program : Bytes) (functions : List ℕ) (request : Request) (d : Debugger) (told : Reply) (new : Session M) : Type 0 where
  pub last : Option Answer
  pub does : DoesLinesIn stands s (frame_of (depth (now s d)) request) (lines_of s.program program functions (depth (now s d)) d.stops request) d last new
  pub after : Debugger
  pub there : StandsFor stands new s after
  pub meant : model.Answer
  pub means : MeansLast s after last meant
  pub tells : MayTell s program after last meant request told

-- what is told of a reply to a move to a breakpoint that was made, or to none: there the goal is reached
pub record IsToldAt (s : Setting) (program : Bytes) (request : Request) (told : Reply) (number : Option ℕ) (at : model.Reply) : Type 0 where
  pub given : Answer
  pub answers : Means s at.next given at.answer
  pub meant : model.Answer
  pub means : Means s at.next (reached (is_at number given) given) meant
  pub tells : MayTell s program at.next (Some (reached (is_at number given) given)) meant request told

-- what is told of going to a time of a line, where the debugger stands before the breakpoint goes
abbrev pub IsToldGoing : Setting → (program : Bytes) → Request → Debugger → (time : ℕ × Way) → Reply → Type 0
IsToldGoing s program request d time told = IsToldAt s program request told (made_number (do_command s (DoBreak time.0) d).answer) (goto_reply s d time)

-- what a request is told that goes to a time of a line, or whose lines were done
abbrev pub IsToldBy : {M : Type 0} → (M → Setting → Debugger → Type 0) → Option (ℕ × Way) → Setting → (program : Bytes) → (functions : List ℕ) → Request → Debugger → Reply → (new : Session M) → Type 0
IsToldBy stands None s program functions request d told new = IsToldByLines stands s program functions request d told new
IsToldBy stands (Some time) s program functions request d told new = IsToldGoing s program request d time told

abbrev pub IsTold : {M : Type 0} → (M → Setting → Debugger → Type 0) → Setting → (program : Bytes) → (functions : List ℕ) → Request → Debugger → Reply → (new : Session M) → Type 0
IsTold stands s program functions request d told new = IsToldBy stands (goto_of request) s program functions request d told new
