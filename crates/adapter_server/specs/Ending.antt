-- What ends serving an editor: a request, or the connection itself.
use Rattle.std.specs.Prelude.{⊤, Option, Some, None}
use Rattle.std.specs.Io.KnownBytes.{IsAtEnd}
use Rattle.gang_model.specs.Texts.Text.{Bytes}
use Rattle.adapter_frames.specs.Reading.{reader_of}
use Rattle.adapter_requests.specs.declared.request.Request.{Request}
use Rattle.adapter_requests.specs.declared.request.Request.TheVariants as request
use Rattle.adapter_server.specs.declared.connection.Connection.{Connection}
use Rattle.adapter_server.specs.declared.connection.Ended.{Ended}
use Rattle.adapter_server.specs.declared.connection.Ended.TheVariants as ended
use Rattle.adapter_server.specs.declared.connection.SendFault.{SendFault}
use Rattle.adapter_server.specs.declared.connection.SendFault.TheVariants as fault
use Rattle.adapter_server.specs.declared.launching.Before.{Before}
use Rattle.adapter_server.specs.declared.launching.Before.TheVariants as turn
use Rattle.adapter_server.specs.declared.serving.Served.{Served}
use Rattle.adapter_server.specs.declared.serving.Served.TheVariants as served
use Rattle.adapter_server.specs.Serving.{messages_of}

-- what serving a program ends by behind a request, where it ends
abbrev pub end_behind : Request → Option Served
end_behind request.Restart = Some served.Restarts
end_behind request.Disconnect = Some served.Disconnected
end_behind other = None

-- what a request leads to before a launch
abbrev pub turn_before : Request → Before
turn_before (request.Launch launch) = turn.Launches
turn_before request.Disconnect = turn.Disconnects
turn_before other = turn.Goes

-- a message that is not sent ends a connection by the same fault
abbrev pub ended_by : SendFault → Ended
ended_by fault.Write = ended.WriteFault
ended_by fault.Memory = ended.Memory

-- a connection ended by itself: nothing is left to read where the input is said to have ended, as far as that is known, and no request ended it
abbrev pub IsEndOf : {R O : Type 0} → (R → Option Bytes) → (after : Connection R O) → Ended → Type 0
IsEndOf left after ended.EndOfInput = IsAtEnd (left (reader_of (messages_of after)))
IsEndOf left after ended.Disconnected = ⊥
IsEndOf left after ended.ReadFault = ⊤
IsEndOf left after ended.WriteFault = ⊤
IsEndOf left after ended.Memory = ⊤
