-- The threads that the editor of a launch sees, and what is told of them.
use Rattle.std.specs.Prelude.{ℕ, Bool, List, Option, Some, None, unwrap_or, if◌then◌else◌}
use Rattle.gang_model.specs.Debugger.Debugger.{Debugger, Setting}
use Rattle.gang_model.specs.Texts.Text.{Bytes}
use Rattle.debug_session.specs.Sessions.{bare}
use Rattle.adapter_requests.specs.declared.reply.Reply.{Reply}
use Rattle.adapter_requests.specs.declared.reply.StopReason.{StopReason}
use Rattle.adapter_requests.specs.declared.request.Launch.{Launch}
use Rattle.adapter_requests.specs.declared.request.Request.{Request}
use Rattle.adapter_requests.specs.declared.request.Request.TheVariants as request
use Rattle.adapter_replies.specs.declared.threads.Threads.{Threads}
use Rattle.adapter_replies.specs.declared.threads.Threads.TheVariants as threads
use Rattle.adapter_replies.specs.Exceptions.{IsExceptionTold}
use Rattle.adapter_replies.specs.Threads.{IsThreadTold}
use Rattle.adapter_server.specs.Opening.{AreChildrenAt, text_at}

-- each lane of a gang of so many, 4 where no number is said, or the gang
abbrev pub threads_if : (lane_threads : Bool) → (width : Option ℕ) → Threads
threads_if lane_threads width = if lane_threads then threads.Lanes (unwrap_or width 4) else threads.Gang

abbrev pub threads_of : Launch → Threads
threads_of launch = threads_if launch.lane_threads launch.width

-- the fault of the last stop is told
abbrev pub IsFaultTold : StopReason → Option Reply → Type 0
IsFaultTold stopped None = ⊥
IsFaultTold stopped (Some told) = IsExceptionTold stopped told

-- what a request is told for which a session has nothing to do: one for the fault of the last stop, one for the lanes of an expression that has a place
-- among the texts, and one about threads where each lane is one
abbrev pub IsToldAside : Setting → Debugger → Threads → (stopped : StopReason) → (texts : List (ℕ × Bytes)) → Request → Option Reply → Type 0
IsToldAside s d seen stopped texts request.ExceptionInfo told = IsFaultTold stopped told
IsToldAside s d seen stopped texts (request.Variables reference page is_hexadecimal) told = AreChildrenAt s (bare d) (text_at reference texts) is_hexadecimal page told
IsToldAside s d seen stopped texts other told = IsThreadTold s (bare d) seen other told
