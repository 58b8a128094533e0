-- Why a program stands still, by the answer that says so, and when an editor is told.
use Rattle.std.specs.Prelude.{Bool, true, false, if◌then◌else◌, Option, Some, None, codes, string_bytes}
use Rattle.std.specs.Borrow.{Bor}
use Rattle.gang_model.specs.Texts.Text.{Bytes}
use Rattle.adapter_requests.specs.declared.reply.Reply.{Reply}
use Rattle.adapter_requests.specs.declared.reply.Reply.TheVariants as reply
use Rattle.adapter_requests.specs.declared.request.Request.{Request}
use Rattle.adapter_requests.specs.declared.request.Request.TheVariants as request
use Rattle.adapter_requests.specs.declared.reply.StopReason.{StopReason}
use Rattle.adapter_requests.specs.declared.reply.StopReason.TheVariants as reason
use Rattle.debug_answers.specs.declared.answer.Answer.{Answer}
use Rattle.debug_answers.specs.declared.answer.Answer.TheVariants as answer

-- the reason that an editor is told, for the answers to commands that move
abbrev pub reason_of : Answer → Option StopReason
reason_of answer.Here = Some reason.Step
reason_of (answer.AtBreakpoint n) = Some (reason.Breakpoint n)
reason_of (answer.AtWatch n) = Some (reason.DataBreakpoint n)
reason_of (answer.AtFault fault) = Some (reason.Exception fault.name fault.lane)
reason_of answer.HistoryEnd = Some reason.Step
reason_of answer.StepLimit = Some reason.Pause
reason_of answer.UndoneStep = Some reason.Step
reason_of answer.UndonePoke = Some reason.Step
reason_of other = None

-- whether a goal is reached, or the end
abbrev pub is_here : Answer → Bool
is_here answer.Here = true
is_here other = false

-- the reason that an editor is told whose program was to go to a line
abbrev pub goto_reason : Answer → Option StopReason
goto_reason given = if is_here given then Some reason.Goto else reason_of given

-- whether a request moves the program
abbrev pub is_move : Request → Bool
is_move request.Next = true
is_move request.StepIn = true
is_move request.StepOut = true
is_move request.Continue = true
is_move request.StepBack = true
is_move request.ReverseContinue = true
is_move (request.Goto line way) = true
is_move other = false

-- a reason and a text
abbrev pub stop_view : StopReason × Bor Bytes → StopReason × Bytes
stop_view stop = (stop.0, stop.1.now)

-- a stop that is told anew behind a request that moves, and not behind another one
abbrev pub anew : (is_move : Bool) → StopReason → Bytes → Option (StopReason × Bytes)
anew true reason text = Some (reason, text)
anew false reason text = None

-- the stop that an editor is told of behind a reply: where a move led; a move that was refused moved nothing, and the last stop is told anew
abbrev pub stop_behind : (is_move : Bool) → (last : StopReason) → Reply → Option (StopReason × Bytes)
stop_behind is_move last (reply.Moved stop) = Some (stop.reason, string_bytes stop.text)
stop_behind is_move last (reply.Evaluated text (Some reason) reference) = Some (reason, string_bytes text)
stop_behind is_move last (reply.Refused text) = anew is_move last (string_bytes text)
stop_behind is_move last reply.OutOfMemory = anew is_move reason.Pause (codes "out of memory")
stop_behind is_move last other = None
