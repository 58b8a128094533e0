-- The words that people type: each stands for words of the debugger, and a kind says what is done with them (GDB manual; which words there
-- are, and what they stand for, are choices of this project).
use Rattle.std.specs.Prelude.{ℕ, Bool, true, false, ◌||◌, List, [], ◌∷◌, ◌++◌, drop, take, Option, Some, None, option_and_then, codes, if◌then◌else◌}
use Rattle.std.specs.List.{prefix_len}
use Rattle.gang_model.specs.Texts.Spellings.{Word, behind, decimal_number, in_range, is_blank, words_of_line}
use Rattle.gang_model.specs.Texts.CommandText.{is_mark}
use Rattle.prompt_lines.specs.declared.line.Kind.{Kind}
use Rattle.prompt_lines.specs.declared.line.Kind.TheVariants as kind
use Rattle.prompt_lines.specs.declared.line.Look.TheVariants as look

-- a command line of the debugger, cut behind as many bytes as spell a command at most and one more, and what is done with it
pub record Spelled : Type 0 where
  pub kind : Kind
  pub text : List ℕ

-- the words that a line begins with, what is done with it, and the debugger's own words for them
pub record Row : Type 0 where
  pub words : List Word
  pub kind : Kind
  pub own : List ℕ

abbrev pub row : List Word → Kind → List ℕ → Row
row words kind own = record { words = words; kind = kind; own = own }

-- the words before the letter of digits, with a blank between
abbrev pub letters : List Row
letters =
    row (codes "print" ∷ codes "/d" ∷ []) kind.Print (codes "print")
    ∷ row (codes "print" ∷ codes "/x" ∷ []) kind.Formatted (codes "print/x")
    ∷ row (codes "print" ∷ codes "/t" ∷ []) kind.Formatted (codes "print/t")
    ∷ row (codes "print" ∷ codes "/o" ∷ []) kind.Formatted (codes "print/o")
    ∷ row (codes "print" ∷ codes "/u" ∷ []) kind.Formatted (codes "print/u")
    ∷ row (codes "print" ∷ codes "/c" ∷ []) kind.Formatted (codes "print/c")
    ∷ row (codes "p" ∷ codes "/d" ∷ []) kind.Print (codes "print")
    ∷ row (codes "p" ∷ codes "/x" ∷ []) kind.Formatted (codes "print/x")
    ∷ row (codes "p" ∷ codes "/t" ∷ []) kind.Formatted (codes "print/t")
    ∷ row (codes "p" ∷ codes "/o" ∷ []) kind.Formatted (codes "print/o")
    ∷ row (codes "p" ∷ codes "/u" ∷ []) kind.Formatted (codes "print/u")
    ∷ row (codes "p" ∷ codes "/c" ∷ []) kind.Formatted (codes "print/c")
    ∷ row (codes "output" ∷ codes "/x" ∷ []) kind.Formatted (codes "print/x")
    ∷ row (codes "display" ∷ codes "/d" ∷ []) kind.Display (codes "print")
    ∷ row (codes "display" ∷ codes "/x" ∷ []) kind.Display (codes "print/x")
    ∷ row (codes "display" ∷ codes "/t" ∷ []) kind.Display (codes "print/t")
    ∷ row (codes "display" ∷ codes "/o" ∷ []) kind.Display (codes "print/o")
    ∷ row (codes "display" ∷ codes "/u" ∷ []) kind.Display (codes "print/u")
    ∷ row (codes "display" ∷ codes "/c" ∷ []) kind.Display (codes "print/c")
    ∷ []

-- all words that people type for what is done, beside the debugger's own
abbrev pub rows : List Row
rows =
    row (codes "set" ∷ codes "var" ∷ []) kind.Set (codes "set var")
    ∷ row (codes "set" ∷ codes "variable" ∷ []) kind.Set (codes "set var")
    ∷ row (codes "set" ∷ codes "record" ∷ codes "full" ∷ codes "insn-number-max" ∷ codes "unlimited" ∷ []) kind.Own (codes "set record full insn-number-max 65536")
    ∷ row (codes "set" ∷ codes "record" ∷ []) kind.Own (codes "set record")
    ∷ row (codes "set" ∷ codes "listsize" ∷ []) (kind.Look look.ListSize) (codes "listsize")
    ∷ row (codes "set" ∷ []) kind.Set (codes "set var")
    ∷ row (codes "stepi" ∷ []) kind.Own (codes "step")
    ∷ row (codes "si" ∷ []) kind.Own (codes "step")
    ∷ row (codes "nexti" ∷ []) kind.Own (codes "next")
    ∷ row (codes "ni" ∷ []) kind.Own (codes "next")
    ∷ row (codes "reverse-stepi" ∷ []) kind.Own (codes "reverse-step")
    ∷ row (codes "rsi" ∷ []) kind.Own (codes "reverse-step")
    ∷ row (codes "reverse-nexti" ∷ []) kind.Own (codes "reverse-next")
    ∷ row (codes "rni" ∷ []) kind.Own (codes "reverse-next")
    ∷ row (codes "run" ∷ []) kind.Run (codes "continue")
    ∷ row (codes "r" ∷ []) kind.Run (codes "continue")
    ∷ row (codes "start" ∷ []) kind.Start (codes "start")
    ∷ row (codes "starti" ∷ []) kind.Start (codes "start")
    ∷ row (codes "cont" ∷ []) kind.Own (codes "continue")
    ∷ row (codes "fg" ∷ []) kind.Own (codes "continue")
    ∷ row (codes "finish" ∷ []) kind.Finish (codes "finish")
    ∷ row (codes "fin" ∷ []) kind.Finish (codes "finish")
    ∷ row (codes "print" ∷ []) kind.Print (codes "print")
    ∷ row (codes "p" ∷ []) kind.Print (codes "print")
    ∷ row (codes "inspect" ∷ []) kind.Print (codes "print")
    ∷ row (codes "output" ∷ []) kind.Print (codes "print")
    ∷ row (codes "p/d" ∷ []) kind.Print (codes "print")
    ∷ row (codes "print/d" ∷ []) kind.Print (codes "print")
    ∷ row (codes "break" ∷ []) kind.Break (codes "break")
    ∷ row (codes "b" ∷ []) kind.Break (codes "break")
    ∷ row (codes "br" ∷ []) kind.Break (codes "break")
    ∷ row (codes "clear" ∷ []) kind.Clear (codes "break")
    ∷ row (codes "tbreak" ∷ []) kind.Temporary (codes "break")
    ∷ row (codes "tb" ∷ []) kind.Temporary (codes "break")
    ∷ row (codes "until" ∷ []) kind.Until (codes "break")
    ∷ row (codes "u" ∷ []) kind.Until (codes "break")
    ∷ row (codes "advance" ∷ []) kind.Until (codes "break")
    ∷ row (codes "undisplay" ∷ []) kind.Undisplay (codes "delete")
    ∷ row (codes "delete" ∷ codes "display" ∷ []) kind.Undisplay (codes "delete")
    ∷ row (codes "delete" ∷ codes "checkpoint" ∷ []) kind.Forget (codes "delete")
    ∷ row (codes "delete" ∷ codes "breakpoints" ∷ []) kind.Delete (codes "delete")
    ∷ row (codes "delete" ∷ []) kind.Delete (codes "delete")
    ∷ row (codes "d" ∷ []) kind.Delete (codes "delete")
    ∷ row (codes "del" ∷ []) kind.Delete (codes "delete")
    ∷ row (codes "disable" ∷ codes "breakpoints" ∷ []) kind.Disable (codes "disable")
    ∷ row (codes "disable" ∷ []) kind.Disable (codes "disable")
    ∷ row (codes "dis" ∷ []) kind.Disable (codes "disable")
    ∷ row (codes "enable" ∷ codes "breakpoints" ∷ []) kind.Enable (codes "enable")
    ∷ row (codes "enable" ∷ []) kind.Enable (codes "enable")
    ∷ row (codes "en" ∷ []) kind.Enable (codes "enable")
    ∷ row (codes "watch" ∷ []) kind.Watch (codes "watch")
    ∷ row (codes "condition" ∷ []) kind.Condition []
    ∷ row (codes "ignore" ∷ []) kind.Ignore []
    ∷ row (codes "display" ∷ []) kind.Display (codes "print")
    ∷ row (codes "display/d" ∷ []) kind.Display (codes "print")
    ∷ row (codes "exit" ∷ []) kind.Own (codes "quit")
    ∷ row (codes "goto" ∷ []) kind.Goto (codes "goto")
    ∷ row (codes "last" ∷ []) kind.Last (codes "watch")
    ∷ row (codes "changes" ∷ []) kind.Changes (codes "watch")
    ∷ row (codes "checkpoint" ∷ []) kind.Checkpoint (codes "checkpoint")
    ∷ row (codes "restart" ∷ []) kind.Restart (codes "goto")
    ∷ row (codes "when" ∷ []) kind.When (codes "when")
    ∷ []

-- all words that people type for what is looked at, and for values in other digits
abbrev pub looks : List Row
looks =
    row (codes "backtrace" ∷ codes "full" ∷ []) (kind.Look look.Full) []
    ∷ row (codes "bt" ∷ codes "full" ∷ []) (kind.Look look.Full) []
    ∷ row (codes "where" ∷ codes "full" ∷ []) (kind.Look look.Full) []
    ∷ row (codes "backtrace" ∷ []) (kind.Look look.Frames) (codes "delete")
    ∷ row (codes "bt" ∷ []) (kind.Look look.Frames) (codes "delete")
    ∷ row (codes "where" ∷ []) (kind.Look look.Frames) (codes "delete")
    ∷ row (codes "list" ∷ []) (kind.Look look.List) (codes "break")
    ∷ row (codes "l" ∷ []) (kind.Look look.List) (codes "break")
    ∷ row (codes "frame" ∷ []) (kind.Look look.Frame) (codes "frame")
    ∷ row (codes "f" ∷ []) (kind.Look look.Frame) (codes "frame")
    ∷ row (codes "up" ∷ []) (kind.Look look.Up) (codes "step")
    ∷ row (codes "down" ∷ []) (kind.Look look.Down) (codes "step")
    ∷ row (codes "whatis" ∷ []) (kind.Look look.Type) (codes "print")
    ∷ row (codes "ptype" ∷ []) (kind.Look look.Type) (codes "print")
    ∷ row (codes "record" ∷ []) (kind.Look look.Recording) []
    ∷ row (codes "info" ∷ []) (kind.Look look.Lists) []
    ∷ row (codes "i" ∷ []) (kind.Look look.Lists) []
    ∷ row (codes "help" ∷ []) (kind.Look look.Help) []
    ∷ row (codes "h" ∷ []) (kind.Look look.Help) []
    ∷ row (codes "echo" ∷ []) (kind.Look look.Text) []
    ∷ row (codes "show" ∷ codes "print" ∷ []) (kind.Look look.Layout) []
    ∷ row (codes "show" ∷ codes "listsize" ∷ []) (kind.Look look.Layout) (codes "listsize")
    ∷ row (codes "p/x" ∷ []) kind.Formatted (codes "print/x")
    ∷ row (codes "print/x" ∷ []) kind.Formatted (codes "print/x")
    ∷ row (codes "p/t" ∷ []) kind.Formatted (codes "print/t")
    ∷ row (codes "print/t" ∷ []) kind.Formatted (codes "print/t")
    ∷ row (codes "p/o" ∷ []) kind.Formatted (codes "print/o")
    ∷ row (codes "print/o" ∷ []) kind.Formatted (codes "print/o")
    ∷ row (codes "p/u" ∷ []) kind.Formatted (codes "print/u")
    ∷ row (codes "print/u" ∷ []) kind.Formatted (codes "print/u")
    ∷ row (codes "p/c" ∷ []) kind.Formatted (codes "print/c")
    ∷ row (codes "print/c" ∷ []) kind.Formatted (codes "print/c")
    ∷ row (codes "output/x" ∷ []) kind.Formatted (codes "print/x")
    ∷ row (codes "display/x" ∷ []) kind.Display (codes "print/x")
    ∷ row (codes "display/t" ∷ []) kind.Display (codes "print/t")
    ∷ row (codes "display/o" ∷ []) kind.Display (codes "print/o")
    ∷ row (codes "display/u" ∷ []) kind.Display (codes "print/u")
    ∷ row (codes "display/c" ∷ []) kind.Display (codes "print/c")
    ∷ []

-- a text without the blanks at its beginning
abbrev pub unblanked : List ℕ → List ℕ
unblanked text = drop (prefix_len is_blank text) text

-- whether a word ends before this text
abbrev pub ends_word : List ℕ → Bool
ends_word [] = true
ends_word (byte ∷ bytes) = is_blank byte || is_mark byte

-- what follows a word, where the word ends there
abbrev pub if_ended : Option (List ℕ) → Option (List ℕ)
if_ended None = None
if_ended (Some rest) = if ends_word rest then Some rest else None

-- what follows a word that a text begins with, behind blanks
abbrev pub behind_word : Word → List ℕ → Option (List ℕ)
behind_word word text = if_ended (behind word (unblanked text))

-- what follows words that a text begins with
abbrev pub behind_words : List Word → List ℕ → Option (List ℕ)
behind_words [] text = Some text
behind_words (word ∷ words) text = option_and_then (behind_words words) (behind_word word text)

-- what is held of a command line: one of more than 256 bytes spells no command, whatever follows
abbrev pub held_text : List ℕ → List ℕ
held_text text = take 257 text

-- a line that begins with the words of a row, else another reading
abbrev pub row_or : Option (List ℕ) → Row → Option Spelled → Option Spelled
row_or None row other = other
row_or (Some rest) row other = Some (record { kind = row.kind; text = held_text (row.own ++ 32 ∷ rest) })

-- a text by a table: the first row whose words it begins with
abbrev pub found_by : List Row → List ℕ → Option Spelled
found_by [] text = None
found_by (row ∷ rows) text = row_or (behind_words row.words text) row (found_by rows text)

-- one word alone
abbrev pub is_one : List Word → Bool
is_one [] = false
is_one (word ∷ []) = true
is_one (word ∷ other ∷ words) = false

-- whether a command line is one word alone
abbrev pub is_alone : List ℕ → Bool
is_alone text = is_one (words_of_line is_mark text)

-- the second of two words
abbrev pub second : List Word → Option Word
second (word ∷ other ∷ []) = Some other
second words = None

-- what stands behind the first word of a command line of two words
abbrev pub argument_of : List ℕ → Option Word
argument_of text = second (words_of_line is_mark text)

-- a number of steps, of which there are at most 2 ^ 62
abbrev pub moment_of : Word → Option ℕ
moment_of word = in_range 0 4611686018427387904 (decimal_number word)

-- the command line that sets what another, which begins with `print`, names
abbrev pub setting_text : List ℕ → List ℕ
setting_text text = held_text (codes "set var" ++ 32 ∷ drop 5 text)

-- the command line that prints what a text names
abbrev pub printing_text : List ℕ → List ℕ
printing_text text = held_text (codes "print" ++ 32 ∷ text)

-- the command line of a breakpoint on what a word names
abbrev pub breaking_text : Word → List ℕ
breaking_text word = held_text (codes "break" ++ 32 ∷ word)
