-- What is told of a line of the console that begins with a word of the prompt or of GDB and is no command here.
use Rattle.std.specs.Prelude.{ℕ, ◌==◌, ◌||◌, ◌++◌, Bool, true, false, not, List, [], ◌∷◌, Option, Some, None, codes, find, option_map, take, if◌then◌else◌}
use Rattle.std.specs.List.{list_any, prefix_len}
use Rattle.gang_model.specs.Source.Names.{same_text}
use Rattle.gang_model.specs.Texts.CommandText.{is_mark}
use Rattle.gang_model.specs.Texts.Spellings.{Word, is_digit, is_letter, words_of_line}
use Rattle.gang_model.specs.Texts.Text.{Bytes}
use Rattle.debug_commands.specs.LineWords.{texts}
use Rattle.frame_values.specs.declared.values.NoValue.{NoValue}
use Rattle.adapter_replies.specs.declared.hints.Hint.{Hint}
use Rattle.adapter_replies.specs.declared.hints.Hint.TheVariants as hint
use Rattle.adapter_replies.specs.declared.hints.Hinted.{Hinted}
use Rattle.adapter_replies.specs.declared.hints.Row as declared
use Rattle.adapter_replies.specs.Expressions.{no_value_text}

-- ---- the words

-- words, and what is told of a line that begins with one of them
pub record Row : Type 0 where
  pub words : List Word
  pub hint : Hint

abbrev pub row : List Word → Hint → Row
row words hint = record { words = words; hint = hint }

-- words of the prompt and of GDB that are no commands here, or not with all that may follow them there
abbrev pub rows : List Row
rows =
    row (codes "list" ∷ codes "l" ∷ []) hint.Source
    ∷ row (codes "until" ∷ codes "u" ∷ codes "advance" ∷ codes "tbreak" ∷ codes "tb" ∷ []) hint.Line
    ∷ row (codes "break" ∷ codes "b" ∷ codes "br" ∷ codes "condition" ∷ codes "cond" ∷ codes "ignore" ∷ codes "commands" ∷ codes "enable" ∷ codes "en"
    ∷ codes "disable" ∷ codes "dis" ∷ codes "clear" ∷ codes "rbreak" ∷ codes "hbreak" ∷ []) hint.Breakpoints
    ∷ row (codes "delete" ∷ codes "d" ∷ []) hint.Deleting
    ∷ row (codes "watch" ∷ codes "rwatch" ∷ codes "awatch" ∷ []) hint.Watches
    ∷ row (codes "display" ∷ codes "undisplay" ∷ []) hint.Displays
    ∷ row (codes "frame" ∷ codes "f" ∷ codes "up" ∷ codes "down" ∷ []) hint.Frames
    ∷ row (codes "run" ∷ codes "r" ∷ codes "start" ∷ codes "starti" ∷ codes "restart" ∷ codes "kill" ∷ []) hint.Beginning
    ∷ row (codes "continue" ∷ codes "c" ∷ codes "cont" ∷ []) hint.Going
    ∷ row (codes "whatis" ∷ codes "ptype" ∷ codes "explore" ∷ []) hint.Types
    ∷ row (codes "info" ∷ codes "i" ∷ []) hint.Lists
    ∷ row (codes "set" ∷ codes "show" ∷ []) hint.Settings
    ∷ row (codes "goto" ∷ codes "last" ∷ codes "changes" ∷ codes "when" ∷ codes "lanes" ∷ codes "record" ∷ codes "checkpoint" ∷ []) hint.AtThePrompt
    ∷ row (codes "jump" ∷ codes "call" ∷ codes "return" ∷ codes "thread" ∷ codes "interrupt" ∷ codes "printf" ∷ codes "echo" ∷ codes "output"
    ∷ codes "disassemble" ∷ codes "layout" ∷ codes "apropos" ∷ codes "source" ∷ codes "define" ∷ codes "alias" ∷ codes "python" ∷ codes "shell"
    ∷ codes "catch" ∷ codes "save" ∷ []) hint.OfGdb
    ∷ []

-- whether a word is one of some
abbrev pub is_one_of : List Word → Word → Bool
is_one_of words word = list_any (same_text word) words

-- the hint of the first row that has a word
abbrev pub hint_of : List Row → Word → Option Hint
hint_of rows word = option_map (λ row. row.hint) (find (λ row. is_one_of row.words word) rows)

-- ---- the lines

-- a word without the letters of a format behind `/`
abbrev pub unformatted : Word → Word
unformatted word = take (prefix_len (λ byte. not (byte == 47)) word) word

-- whether a word behind a first one is such that no expression goes on by it: it begins with a letter, a digit or a quotation mark
abbrev pub is_argument : Word → Bool
is_argument [] = false
is_argument (byte ∷ bytes) = is_letter byte || is_digit byte || (byte == 34)

-- the hint of a line of one word alone, or of more
abbrev pub hint_by : (is_alone : Bool) → Option Hint → Option Hinted
hint_by is_alone found = option_map (λ hint. record { hint = hint; is_alone = is_alone }) found

-- the hint of a line by its words: by the first one, where it stands alone or is followed by what no expression goes on by
abbrev pub hint_of_words : List Word → Option Hinted
hint_of_words [] = None
hint_of_words (word ∷ []) = hint_by true (hint_of rows word)
hint_of_words (word ∷ argument ∷ words) = if is_argument argument then hint_by false (hint_of rows (unformatted word)) else None

-- the hint of a line
abbrev pub hint_in : (line : Bytes) → Option Hinted
hint_in line = hint_of_words (words_of_line is_mark line)

-- ---- the texts

abbrev pub hint_text : Hint → Bytes
hint_text hint.Source = codes "The editor shows the source; `backtrace` lists where the frames stand."
hint_text hint.Line = codes "Set a breakpoint on the line, or go to it by the editor's jump to the cursor; `continue` and `next` are done here."
hint_text hint.Breakpoints = codes "`break LINE` and `delete N` are done here; functions, conditions, counts and messages are set at the editor's breakpoints."
hint_text hint.Deleting = codes "`delete N` deletes one breakpoint or watch, `delete` alone all of them."
hint_text hint.Watches = codes "`watch T` takes a variable of the file, a lane or an element of one; its condition is set at the editor's data breakpoint."
hint_text hint.Displays = codes "Put the expression on the editor's watch list: it is shown at each stop."
hint_text hint.Frames = codes "Select the frame in the editor's call stack: what is typed here is looked up there."
hint_text hint.Beginning = codes "The editor's restart begins anew; `reverse-continue` goes back to a breakpoint or to the beginning."
hint_text hint.Going = codes "`continue` takes no number here: how often a stop is passed is set at the editor's breakpoint."
hint_text hint.Types = codes "The editor shows the types beside the variables of a frame; a name alone shows its values."
hint_text hint.Lists = codes "`info locals`, `info args` and `info breakpoints` are done here; the others are at the prompt: rinddecade debug SOURCE."
hint_text hint.Settings = codes "`set var T = V` and `set record full insn-number-max N` are done here."
hint_text hint.AtThePrompt = codes "This is done at the prompt: rinddecade debug SOURCE."
hint_text hint.OfGdb = codes "This command of GDB has nothing to do here; `help` lists what can be typed."

-- what is told of a line with a hint that has no value: of a word alone, which may be meant for a variable, also why it has none
abbrev pub hinted_text : Hinted → NoValue → Bytes
hinted_text hinted why = if hinted.is_alone then (no_value_text why ++ codes ". ") ++ hint_text hinted.hint else hint_text hinted.hint

-- ---- as they are given

abbrev pub row_view : declared.Row → Row
row_view given = record { words = texts given.0.now; hint = given.1 }
