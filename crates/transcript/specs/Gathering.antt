-- What is gathered of answers, and what of it a writer was given.
use Rattle.std.specs.Prelude.{◌≡◌, ℕ, ◌<◌, Bool, List, [], ◌++◌, length, take, Option, Some, Result, Ok, Err}
use Rattle.std.specs.Io.KnownBytes.{Appends}
use Rattle.gang_model.specs.Debugger.Debugger.{Debugger, Reply, Setting}
use Rattle.gang_model.specs.Texts.Text.{Bytes}
use Rattle.gang_model.specs.Texts.Transcript.{AreReplies, reply_texts}
use Rattle.transcript.specs.declared.debugger.Turn.{Turn}
use Rattle.transcript.specs.declared.debugger.Turn.TheVariants.{Goes, Quits, Fails}
use Rattle.transcript.specs.declared.room.Room.{Room}
use Rattle.transcript.specs.Lines.{Says}
use Rattle.transcript.specs.Answered.{AnswersPiece, line_alone}

-- what is gathered
abbrev pub gathered : Room → Bytes
gathered room = room.bytes.items

-- whether an answer found no room
abbrev pub lacks_room : Room → Bool
lacks_room room = room.is_over

-- a writer that failed got a front of a text that is not all of it
abbrev pub Breaks : (text : Bytes) → (old new : Option Bytes) → Type 0
Breaks text old new = (k : ℕ) × (k < length text) × Appends old new (take k text)

-- all that was gathered was given to a writer, or the writer failed before that
abbrev pub GivesOut : {X E : Type 0} → (text : Bytes) → (old new : Option Bytes) → Result X E → Type 0
GivesOut text old new (Ok x) = Appends old new text
GivesOut text old new (Err e) = Breaks text old new

-- what a writer was given and what is gathered then are together what was gathered and a text behind it
abbrev pub Adds : (text : Bytes) → (old new : Option Bytes) → (room room' : Bytes) → Type 0
Adds text old new room room' = (out : Bytes) × Appends old new out × (out ++ room' ≡ room ++ text)

-- a text was added whole; or the writer failed before it had that too, and nothing is gathered any more
abbrev pub AddsOrFails : (text : Bytes) → (old new : Option Bytes) → (room room' : Bytes) → Turn → Type 0
AddsOrFails text old new room room' Goes = Adds text old new room room'
AddsOrFails text old new room room' Quits = ⊥
AddsOrFails text old new room room' Fails = Breaks (room ++ text) old new × (room' ≡ [])

-- What is said of a line behind what is gathered: the text of a reply to it is added, or it quits and nothing is; or the writer failed before it had
-- all of that, and nothing is gathered any more.
abbrev pub SaysBehind : {D : Type 0} → (D → Setting → Debugger → Type 0) → Setting → Debugger → (line : Bytes) → Turn → D → (old new : Option Bytes) → (room room' : Bytes) → Type 0
SaysBehind stands s d line Fails next old new room room' =
    ((replies : List Reply) × AreReplies s (line_alone line) d replies × Breaks (room ++ reply_texts s replies) old new) × (room' ≡ [])
SaysBehind stands s d line turn next old new room room' =
    (out : Bytes) × Appends old new out × Says stands s d line turn next (Some room) (Some (out ++ room'))

-- the lines that end in a piece were answered, where nothing was gathered before it
abbrev pub GathersPiece : {D : Type 0} → (D → Setting → Debugger → Type 0) → Setting → Debugger → (begun piece : Bytes) → Turn → D → (held : Bytes) → (old new : Option Bytes) → (room : Bytes) → Type 0
GathersPiece stands s d begun piece turn next held old new room =
    (out : Bytes) × Appends old new out × AnswersPiece stands s d begun piece turn next held (Some []) (Some (out ++ room))
