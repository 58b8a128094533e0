-- In which order lines come and their answers are written.
use Rattle.std.specs.Prelude.{◌≡◌, false, List, [], ◌∷◌, ◌++◌, Option, ⊤}
use Rattle.std.specs.Io.KnownBytes.{Appends}
use Rattle.gang_model.specs.Debugger.Debugger.{Debugger, Setting}
use Rattle.gang_model.specs.Texts.Text.{Bytes}
use Rattle.gang_model.specs.Texts.Transcript.{Transcribes, complete_lines, has_quit}
use Rattle.debug_traits.specs.Devices.{Heard}

-- of the bytes that came, all whole lines were answered, none of them quits, and nothing else was written
abbrev pub IsAnswered : Setting → Debugger → (old : Option Bytes) → (came : Bytes) → (told : Option Bytes) → Type 0
IsAnswered s d old came told = (out : Bytes) × Appends old told out × (has_quit (complete_lines came) ≡ false) × Transcribes s (complete_lines came) d out

-- reads after bytes that had come: before each all that had come by then was answered; and after one that gave nothing there is
-- no other
abbrev pub Interleaves : Setting → Debugger → (old : Option Bytes) → (came : Bytes) → List Heard → Type 0
Interleaves s d old came [] = ⊤
Interleaves s d old came (read ∷ reads) =
    IsAnswered s d old came read.told × (read.came ≡ [] → reads ≡ []) × Interleaves s d old (came ++ read.came) reads

-- what was heard of reads comes in turn with what was written
abbrev pub TakesTurns : Setting → Debugger → (old : Option Bytes) → (heard heard' : List Heard) → Type 0
TakesTurns s d old heard heard' = (reads : List Heard) × (heard' ≡ heard ++ reads) × Interleaves s d old [] reads
