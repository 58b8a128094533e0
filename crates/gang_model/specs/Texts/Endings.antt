-- How the answering of command lines ends, and what is written by then (a choice of this project).
use Rattle.std.specs.Prelude.{◌≡◌, ℕ, ◌<◌, true, false, length, take, Option, IfSome}
use Rattle.std.specs.Io.KnownBytes.{Consumes}
use Rattle.gang_model.specs.Debugger.Debugger.{Debugger, Setting}
use Rattle.gang_model.specs.Texts.Text.{Bytes}
use Rattle.gang_model.specs.Texts.Transcript.{complete_lines, has_quit, lines_of, Transcribes}

-- how the answering of lines ends
pub data Ending : Type 0 where
  AtQuit AtEnd AtReadFault AtWriteFault : Ending

-- out is written from this state on, by what the reader had left before and after: a transcript up to `quit`, or of all lines; one
-- of the lines that were whole when reading failed; or the front of one, where the writer failed
abbrev pub Ends : Setting → Debugger → Ending → Option Bytes → Option Bytes → Bytes → Type 0
Ends s d AtQuit left left' out = IfSome left (λ bytes. (has_quit (lines_of bytes) ≡ true) × Transcribes s (lines_of bytes) d out)
Ends s d AtEnd left left' out = IfSome left (λ bytes. (has_quit (lines_of bytes) ≡ false) × Transcribes s (lines_of bytes) d out)
Ends s d AtReadFault left left' out = (came : Bytes) × Consumes left left' came
    × (has_quit (complete_lines came) ≡ false) × Transcribes s (complete_lines came) d out
Ends s d AtWriteFault left left' out = IfSome left (λ bytes. (whole : Bytes) × Transcribes s (lines_of bytes) d whole
    × ((k : ℕ) × (k < length whole) × (out ≡ take k whole)))
