-- What is written for the lines of a piece, of which the first had begun before it.
use Rattle.std.specs.Prelude.{◌≡◌, ℕ, ◌==◌, ◌<◌, true, false, List, [], ◌∷◌, ◌++◌, length, take, Option, if◌then◌else◌}
use Rattle.std.specs.Io.KnownBytes.{Appends}
use Rattle.gang_model.specs.Debugger.Debugger.{Debugger, Reply, Setting}
use Rattle.gang_model.specs.Texts.Text.{Bytes}
use Rattle.gang_model.specs.Texts.Transcript.{AreReplies, complete_lines_after, has_quit, reply_texts}
use Rattle.transcript.specs.declared.debugger.Turn.{Turn}
use Rattle.transcript.specs.declared.debugger.Turn.TheVariants.{Goes, Quits, Fails}

-- ---- lines

-- a line alone
abbrev pub line_alone : Bytes → List Bytes
line_alone line = line ∷ []

-- the line that has begun behind a piece
abbrev pub begun_after : (begun piece : Bytes) → Bytes
begun_after begun [] = begun
begun_after begun (byte ∷ piece) = if byte == 10 then begun_after [] piece else begun_after (begun ++ byte ∷ []) piece

-- what is held of a line: a line of more bytes than 256 spells no command, whatever follows
abbrev pub held_of : Bytes → Bytes
held_of line = take 257 line

-- ---- answers

-- what the debugger holds after replies
abbrev pub after_replies : Debugger → List Reply → Debugger
after_replies d [] = d
after_replies d (r ∷ replies) = after_replies r.next replies

-- what is written of the texts of the replies to lines: all, where none of the lines quits; all, where one does; or, where the
-- writer fails, a front of them
abbrev pub WrittenOf : (lines : List Bytes) → Turn → (all out : Bytes) → Type 0
WrittenOf lines Goes all out = (has_quit lines ≡ false) × (out ≡ all)
WrittenOf lines Quits all out = (has_quit lines ≡ true) × (out ≡ all)
WrittenOf lines Fails all out = (k : ℕ) × (k < length all) × (out ≡ take k all)

-- what is written for lines: the texts of these replies, up to a line that quits, or a front of them
abbrev pub Written : Setting → Debugger → (lines : List Bytes) → (replies : List Reply) → Turn → (out : Bytes) → Type 0
Written s d lines replies turn out = AreReplies s lines d replies × WrittenOf lines turn (reply_texts s replies) out

-- a writer got what is written for lines by these replies
abbrev pub AnswersBy : Setting → Debugger → (lines : List Bytes) → (replies : List Reply) → Turn → (old new : Option Bytes) → Type 0
AnswersBy s d lines replies turn old new = (out : Bytes) × Appends old new out × Written s d lines replies turn out

-- a writer got what is written for lines
abbrev pub AnswersLines : Setting → Debugger → (lines : List Bytes) → Turn → (old new : Option Bytes) → Type 0
AnswersLines s d lines turn old new = (replies : List Reply) × AnswersBy s d lines replies turn old new

-- where the lines that end in a piece lead, if none quits and the writer works: the debugger after the replies to them, and the
-- line that has begun
pub record AfterPiece {D : Type 0} (stands : D → Setting → Debugger → Type 0) (s : Setting) (d : Debugger) (replies : List Reply) (begun piece : Bytes) (new : D) (held : Bytes) : Type 0 where
  pub debugger : stands new s (after_replies d replies)
  pub line : held ≡ held_of (begun_after begun piece)

-- the lines that end in a piece were answered
abbrev pub AnswersPiece : {D : Type 0} → (D → Setting → Debugger → Type 0) → Setting → Debugger → (begun piece : Bytes) → Turn → D → (held : Bytes) → (old new : Option Bytes) → Type 0
AnswersPiece stands s d begun piece turn next held old new = (replies : List Reply) × AnswersBy s d (complete_lines_after begun piece) replies turn old new
    × (turn ≡ Goes → AfterPiece stands s d replies begun piece next held)
