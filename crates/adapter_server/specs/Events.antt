-- What an editor is told behind a reply and where a run begins: events, one after another.
use Rattle.std.specs.Prelude.{List, [], ◌∷◌, ◌++◌, codes, map, string_bytes, ℕ, Bool, true, false, ◌&&◌, Option, Some, None, if◌then◌else◌}
use Rattle.gang_model.specs.Debugger.Debugger as model
use Rattle.gang_model.specs.Debugger.Debugger.{Debugger, Setting, now}
use Rattle.gang_model.specs.Debugger.Positions.{lanes_now}
use Rattle.gang_model.specs.Texts.Text.{Bytes, text}
use Rattle.debug_session.specs.Sessions.{bare}
use Rattle.conditional_stops.specs.declared.judging.Verdict.{Verdict}
use Rattle.conditional_stops.specs.declared.judging.Verdict.TheVariants.{NoValue}
use Rattle.conditional_stops.specs.declared.reasons.CountedStop.{CountedStop}
use Rattle.conditional_stops.specs.Reasons.{number_of}
use Rattle.log_points.specs.Points.{Written, written_of}
use Rattle.adapter_requests.specs.declared.reply.Reply.{Reply}
use Rattle.adapter_requests.specs.declared.reply.Reply.TheVariants.{Ended, Evaluated, Set}
use Rattle.adapter_requests.specs.declared.reply.StopReason.{StopReason}
use Rattle.adapter_requests.specs.declared.reply.StopReason.TheVariants as reason
use Rattle.adapter_requests.specs.declared.request.Request.{Request}
use Rattle.adapter_replies.specs.declared.threads.Threads.{Threads}
use Rattle.adapter_replies.specs.Expressions.{no_value_text}
use Rattle.adapter_replies.specs.Shown.{shown_text}
use Rattle.adapter_replies.specs.Stopped.{is_move, stop_behind}
use Rattle.adapter_replies.specs.Threads.{stop_thread}
use Rattle.adapter_session.specs.declared.answering.Answered.{Answered}
use Rattle.adapter_session.specs.declared.beginning.Beginning.{Beginning}
use Rattle.adapter_server.specs.Effects.{asks_to_end, asks_to_set}
use Rattle.adapter_server.specs.declared.events.Event.{Event}
use Rattle.adapter_server.specs.declared.events.Event.TheVariants as event
use Rattle.adapter_server.specs.Writing.{console_line, console_lines}

-- what an event tells: a line of the console, a stop with its thread and text, a change of values, or the end
pub data ToldEvent : Type 0 where
  Says : (text : Bytes) → ToldEvent
  Stops : StopReason → (thread : ℕ) → (text : Bytes) → ToldEvent
  Changes : ToldEvent
  Ends : ToldEvent

abbrev pub event_view : Event → ToldEvent
event_view (event.Line text) = Says (string_bytes text)
event_view (event.Stop reason thread text) = Stops reason thread (string_bytes text)
event_view event.Change = Changes
event_view event.End = Ends

-- the reason of the last stop that was told, once these events are told
abbrev pub last_stop : (before : StopReason) → List ToldEvent → StopReason
last_stop before [] = before
last_stop before (Says text ∷ others) = last_stop before others
last_stop before (Stops reason thread text ∷ others) = last_stop reason others
last_stop before (Changes ∷ others) = last_stop before others
last_stop before (Ends ∷ others) = last_stop before others

-- ---- the parts

-- a line for each text that was written, and one behind them where some are left out
abbrev pub written_events : Written → List ToldEvent
written_events written = map Says (console_lines written)

-- why a condition has no value, where it has none
abbrev pub verdict_events : Option Verdict → List ToldEvent
verdict_events (Some (NoValue why)) = Says (console_line (codes "the condition has no value: " ++ no_value_text why)) ∷ []
verdict_events other = []

-- a stop where a debugger stands, with the thread that it names
abbrev pub stop_event : Threads → Setting → Debugger → StopReason → (text : Bytes) → ToldEvent
stop_event seen s d reason text = Stops reason (stop_thread seen (lanes_now (now s d)) reason) text

abbrev pub stop_events : Threads → Setting → Debugger → Option (StopReason × Bytes) → List ToldEvent
stop_events seen s d None = []
stop_events seen s d (Some stop) = stop_event seen s d stop.0 stop.1 ∷ []

-- whether a reply tells a value, and no move
abbrev pub tells_value : Reply → Bool
tells_value (Set text reference) = true
tells_value (Evaluated text None reference) = true
tells_value other = false

-- a change, where an editor hears of those and a value was set: a move tells of its stop instead
abbrev pub change_events : (hears : Bool) → Request → Reply → List ToldEvent
change_events hears asked told = if hears && asks_to_set asked && tells_value told then Changes ∷ [] else []

-- the end where a reply tells that the program had ended, and else the stop that an editor is told of behind the reply
abbrev pub standing_events : Threads → Setting → Debugger → Request → (last : StopReason) → Reply → List ToldEvent
standing_events seen s d asked last Ended = Ends ∷ []
standing_events seen s d asked last other = stop_events seen s d (stop_behind (is_move asked) last other)

-- what a reply leads to: the end or a stop, and a change
abbrev pub reply_events : Threads → (hears : Bool) → Setting → Debugger → Request → (last : StopReason) → Reply → List ToldEvent
reply_events seen hears s d asked last told = standing_events seen s d asked last told ++ change_events hears asked told

-- the end where a request asks for it
abbrev pub request_events : Setting → Debugger → Request → List ToldEvent
request_events s d asked = if asks_to_end s d asked then Ends ∷ [] else []

-- ---- the whole

-- what is told behind the reply to a request, where a debugger stands then and the last stop was for a reason: what breakpoints wrote, why a condition has no
-- value, the stop, a change or the end
abbrev pub events_behind : Threads → (hears : Bool) → Setting → Debugger → Request → (last : StopReason) → Answered → List ToldEvent
events_behind seen hears s d asked last answered =
    written_events (written_of answered.written) ++ verdict_events answered.verdict ++ reply_events seen hears s d asked last answered.reply ++ request_events s (bare d) asked

-- a stop before the first step, with the text of an answer there
abbrev pub first_stop : Threads → Setting → Debugger → StopReason → model.Answer → ToldEvent
first_stop seen s d reason answer = stop_event seen s d reason (shown_text (text s answer d))

-- what is told where a run begins that stops before its first step
abbrev pub events_on_entry : Threads → Setting → Debugger → List ToldEvent
events_on_entry seen s d = first_stop seen s d reason.Entry model.Here ∷ []

-- why a breakpoint's condition has no value, and its stop, where one counts
abbrev pub counted_events : Threads → Setting → Debugger → Option CountedStop → List ToldEvent
counted_events seen s d None = []
counted_events seen s d (Some counted) =
    verdict_events counted.verdict ++ first_stop seen s d (reason.Breakpoint (number_of counted.reason)) (model.AtBreakpoint (number_of counted.reason)) ∷ []

-- what is told where another run begins: what breakpoints wrote there, and the stop at the one that counts
abbrev pub events_at_beginning : Threads → Setting → Debugger → Beginning → List ToldEvent
events_at_beginning seen s d beginning = written_events (written_of beginning.written) ++ counted_events seen s d beginning.first
