-- What a debugger does with a command line.
use Rattle.std.specs.Prelude.{◌≡◌, ℕ, ◌<◌, Bool, true, false, [], length, take, Option}
use Rattle.std.specs.Io.KnownBytes.{Appends}
use Rattle.gang_model.specs.Texts.CommandText.{command_of}
use Rattle.gang_model.specs.Debugger.Debugger.{Debugger, Reply, Setting}
use Rattle.gang_model.specs.Texts.Text.{Bytes, text}
use Rattle.gang_model.specs.Texts.Transcript.{IsReplyTo, is_quit}
use Rattle.transcript.specs.declared.debugger.Turn.{Turn}
use Rattle.transcript.specs.declared.debugger.Turn.TheVariants.{Goes, Quits, Fails}

-- the text of a reply
abbrev pub reply_text : Setting → Reply → Bytes
reply_text s reply = text s reply.answer reply.next

-- whether a line quits
abbrev pub quits : Bytes → Bool
quits line = is_quit (command_of line)

-- the text of a reply to the line was written, or the line quits and nothing was; or the writer failed before it was whole
abbrev pub Says : {D : Type 0} → (D → Setting → Debugger → Type 0) → Setting → Debugger → (line : Bytes) → Turn → D → Option Bytes → Option Bytes → Type 0
Says stands s d line Goes new w w' = (quits line ≡ false)
    × ((r : Reply) × IsReplyTo s (command_of line) d r × Appends w w' (reply_text s r) × stands new s r.next)
Says stands s d line Quits new w w' = (quits line ≡ true) × Appends w w' []
Says stands s d line Fails new w w' = (quits line ≡ false)
    × ((r : Reply) × IsReplyTo s (command_of line) d r × ((k : ℕ) × (k < length (reply_text s r)) × Appends w w' (take k (reply_text s r))))

-- a text was written whole, or the writer failed before that
abbrev pub Tells : (text : Bytes) → (old new : Option Bytes) → Turn → Type 0
Tells text old new Goes = Appends old new text
Tells text old new Quits = ⊥
Tells text old new Fails = (k : ℕ) × (k < length text) × Appends old new (take k text)

-- only a failing turn leaves a writer that failed
abbrev pub fails : Turn → Bool
fails Goes = false
fails Quits = false
fails Fails = true
