-- Transcripts: the texts of the answers to a run's command lines (a choice of this project).
use Rattle.std.specs.Prelude.{◌≡◌, ◌≢◌, ℕ, ◌==◌, Bool, true, false, List, [], ◌∷◌, ◌++◌, All, flat_map, Option, Some, None, if◌then◌else◌}
use Rattle.gang_model.specs.Types.Tree.{Program}
use Rattle.gang_model.specs.Debugger.Events.{Row, start}
use Rattle.gang_model.specs.Debugger.Debugger.{Debugger, fresh, Command, DoQuit, BadCommand, Memory, Refused, Reply, refused, Setting, do_command, IsReply}
use Rattle.gang_model.specs.Texts.CommandText.{command_of}
use Rattle.gang_model.specs.Texts.Text.{Bytes, text}

-- the lines of a text, without their LF, behind one that has begun; the last may lack its LF
abbrev pub lines_after : Bytes → Bytes → List Bytes
lines_after begun [] = begun ∷ []
lines_after begun (byte ∷ bytes) = if byte == 10 then begun ∷ lines_after [] bytes else lines_after (begun ++ byte ∷ []) bytes

-- the lines of a text; a last one that is empty is a blank line, which has no answer
abbrev pub lines_of : Bytes → List Bytes
lines_of bytes = lines_after [] bytes

-- the lines of a text that end in LF, behind one that has begun
abbrev pub complete_lines_after : Bytes → Bytes → List Bytes
complete_lines_after begun [] = []
complete_lines_after begun (byte ∷ bytes) =
    if byte == 10 then begun ∷ complete_lines_after [] bytes else complete_lines_after (begun ++ byte ∷ []) bytes

-- the lines of a text that end in LF: those that have an answer where reading fails after the text
abbrev pub complete_lines : Bytes → List Bytes
complete_lines bytes = complete_lines_after [] bytes

-- the reply to a line that spells this command, or none, where the command finds its memory
abbrev pub replied : Setting → Option Command → Debugger → Reply
replied s None d = refused BadCommand d
replied s (Some command) d = do_command s command d

-- whether a line spells `quit`
abbrev pub is_quit : Option Command → Bool
is_quit (Some DoQuit) = true
is_quit command = false

-- a reply's text and what follows it, nothing at `quit`
abbrev pub text_and_rest : Setting → (is_quit : Bool) → Reply → (Debugger → Bytes) → Bytes
text_and_rest s true reply rest = []
text_and_rest s false reply rest = text s reply.answer reply.next ++ rest reply.next

-- the texts of the answers to the lines, up to the first `quit`, where every command finds its memory
abbrev pub transcript_from : Setting → List Bytes → Debugger → Bytes
transcript_from s [] d = []
transcript_from s (line ∷ lines) d =
    text_and_rest s (is_quit (command_of line)) (replied s (command_of line) d) (λ d. transcript_from s lines d)

-- whether one of the lines spells `quit`
abbrev pub has_quit : List Bytes → Bool
has_quit [] = false
has_quit (line ∷ lines) = if is_quit (command_of line) then true else has_quit lines

-- ---- where a command may want for memory

-- a reply to a line that spells this command, or none
abbrev pub IsReplyTo : Setting → Option Command → Debugger → Reply → Type 0
IsReplyTo s None d r = r ≡ refused BadCommand d
IsReplyTo s (Some command) d r = IsReply s command d r

-- the first reply is one to this command, and the others are those to what follows; there is none at `quit`
abbrev pub FirstAndRest : Setting → (is_quit : Bool) → Option Command → Debugger → (Debugger → List Reply → Type 0) → List Reply → Type 0
FirstAndRest s true command d rest replies = replies ≡ []
FirstAndRest s false command d rest [] = ⊥
FirstAndRest s false command d rest (r ∷ replies) = IsReplyTo s command d r × rest r.next replies

-- replies to the lines, up to the first `quit`
abbrev pub AreReplies : Setting → List Bytes → Debugger → List Reply → Type 0
AreReplies s [] d replies = replies ≡ []
AreReplies s (line ∷ lines) d replies =
    FirstAndRest s (is_quit (command_of line)) (command_of line) d (λ d replies. AreReplies s lines d replies) replies

-- the texts of replies
abbrev pub reply_texts : Setting → List Reply → Bytes
reply_texts s replies = flat_map (λ r. text s r.answer r.next) replies

-- the bytes are a transcript of the lines: the texts of replies to them
abbrev pub Transcribes : Setting → List Bytes → Debugger → Bytes → Type 0
Transcribes s lines d out = (replies : List Reply) × AreReplies s lines d replies × (out ≡ reply_texts s replies)

-- a reply that refuses nothing for memory
abbrev pub FindsMemory : Reply → Type 0
FindsMemory r = r.answer ≢ Refused Memory

-- a transcript without an answer C12
abbrev pub TranscribesWhole : Setting → List Bytes → Debugger → Bytes → Type 0
TranscribesWhole s lines d out = (replies : List Reply) × AreReplies s lines d replies × All FindsMemory replies × (out ≡ reply_texts s replies)

-- ---- a run

-- the gang's width, the history limit and the most moves of one forward command
pub record Options : Type 0 where
  pub width : ℕ
  pub history : ℕ
  pub steps : ℕ

-- a program with its first state, for one entry and its input rows
abbrev pub setting : Program → (entry : ℕ) → List Row → Options → Setting
setting p entry rows options = record { program = p; first = start p entry rows options.width; limit = options.steps }

-- the one transcript of command lines without an answer C12, from the first state on
abbrev pub transcript : Program → (entry : ℕ) → List Row → Options → List Bytes → Bytes
transcript p entry rows options lines = transcript_from (setting p entry rows options) lines (fresh options.history)
