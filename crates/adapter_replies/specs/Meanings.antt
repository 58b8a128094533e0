-- What refusals of commands mean, in an editor's words.
use Rattle.std.specs.Prelude.{◌++◌, if◌then◌else◌, Bool, true, false, codes}
use Rattle.gang_model.specs.Texts.Text.{Bytes}
use Rattle.debug_answers.specs.declared.answer.Answer.{Answer}
use Rattle.debug_answers.specs.declared.answer.Answer.TheVariants as answer
use Rattle.debug_answers.specs.declared.answer.Refusal.{Refusal}
use Rattle.debug_answers.specs.declared.answer.Refusal.TheVariants as refusal
use Rattle.adapter_replies.specs.Shown.{shown_text}

-- what a refusal means
abbrev pub meaning_of : Refusal → Bytes
meaning_of refusal.BadCommand = codes "this is no command"
meaning_of refusal.NoSuchName = codes "there is no such variable, lane or element here, or it cannot be set or watched"
meaning_of refusal.NoHistory = codes "nothing is kept that could be taken back"
meaning_of refusal.Ended = codes "the program has ended; a step back goes back into it, and a restart begins it anew"
meaning_of refusal.Outermost = codes "this is the outermost frame, which no other called"
meaning_of refusal.NoLine = codes "no line from there on has a step"
meaning_of refusal.OutOfRange = codes "an index is past the end, or a value outside its range"
meaning_of refusal.Constant = codes "constants and the indices of foreach are not set"
meaning_of refusal.NoSuchNumber = codes "no breakpoint or watch has this number"
meaning_of refusal.TableFull = codes "64 breakpoints and watches are there; one that is removed makes room"
meaning_of refusal.Memory = codes "there is no memory for so long a history; the limit is as before"

-- the text of an answer as an editor shows it, and behind that of a refusal what it means
abbrev pub told_text : Answer → (text : Bytes) → Bytes
told_text (answer.Refused why) text = (shown_text text ++ codes ": ") ++ meaning_of why
told_text other text = shown_text text

-- whether an answer says that a line spells no command
abbrev pub is_bad_command : Answer → Bool
is_bad_command (answer.Refused refusal.BadCommand) = true
is_bad_command other = false

-- what is told where a value was to be set and the line spells no command: its name is none, or its value
abbrev pub bad_value : Bytes
bad_value = codes "C1 BadCommand: a variable, a lane or an element is set to a number, true or false"

-- the text of an answer to a line by which a value was to be set
abbrev pub unset_text : Answer → (text : Bytes) → Bytes
unset_text given text = if is_bad_command given then bad_value else told_text given text
