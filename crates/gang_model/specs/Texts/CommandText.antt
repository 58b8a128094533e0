-- How command lines are read: a table of the commands' words, with the form of what may follow them
-- (GDB manual; the short forms, the forms and the limits are choices of this project).
use Rattle.std.specs.Prelude.{ℕ, ◌-◌, ◌^◌, ◌==◌, Bool, false, ◌||◌, nat_lt, List, [], ◌∷◌, length, Option, Some, None, ℤ, codes, if◌then◌else◌}
use Rattle.gang_model.specs.Source.Names.{same_text}
use Rattle.gang_model.specs.Texts.Spellings.{Word, is_blank, all_are, is_name, words_of_line, decimal_number, number_of_word, in_range, value_of_word}
use Rattle.gang_model.specs.Debugger.Debugger.{Target, Command, DoStep, DoNext, DoReverseStep, DoReverseNext, DoFinish, DoContinue, DoReverseFinish, DoReverseContinue, DoUndo, DoPrint, DoSet, DoBreak, DoWatch, DoDelete, DoInfoBreakpoints, DoInfoLocals, DoBacktrace, DoNothing, DoQuit, DoSetHistory}

-- `[`, `]` and `=` are words by themselves
abbrev pub is_mark : ℕ → Bool
is_mark byte = (byte == 91) || (byte == 93) || (byte == 61)

-- N: decimal, 1 to 10,000,000
abbrev pub number : Word → Option ℕ
number word = in_range 1 10000000 (decimal_number word)

-- K: decimal, 0 to 10,000,000
abbrev pub index : Word → Option ℕ
index word = in_range 0 10000000 (decimal_number word)

-- a number of at most 2 ^ 64 - 1
abbrev pub magnitude : Word → Option ℕ
magnitude word = in_range 0 (2 ^ 64 - 1) (number_of_word word)

-- V: an optional minus and a number, or `true` or `false`
abbrev pub value_word : Word → Option ℤ
value_word word = value_of_word magnitude magnitude word

-- ---- what follows a command's words

-- the command that a number makes, where there is one
abbrev pub with_number : Option ℕ → (ℕ → Command) → Option Command
with_number None make = None
with_number (Some n) make = Some (make n)

-- the command that a target makes, where there is one
abbrev pub with_target : Option Target → (Target → Command) → Option Command
with_target None make = None
with_target (Some target) make = Some (make target)

-- the command that a target and a value make, where there are both
abbrev pub with_value : Option Target → Option ℤ → Option Command
with_value None z = None
with_value (Some target) None = None
with_value (Some target) (Some z) = Some (DoSet target z)

-- NAME
abbrev pub whole_target : Word → Option Target
whole_target name = if is_name name then Some (record { name = name; at = None }) else None

-- an element or a lane of what a target names
abbrev pub at_index : Option Target → Option ℕ → Option Target
at_index None k = None
at_index (Some target) None = None
at_index (Some target) (Some k) = Some (record target { at = Some k })

-- NAME [ K ]
abbrev pub part_target : (name left k right : Word) → Option Target
part_target name left k right =
    if same_text left (codes "[") then (if same_text right (codes "]") then at_index (whole_target name) (index k) else None) else None

-- NAME or NAME [ K ]
abbrev pub target_of : List Word → Option Target
target_of (name ∷ []) = whole_target name
target_of (name ∷ left ∷ k ∷ right ∷ []) = part_target name left k right
target_of words = None

-- T = V
abbrev pub set_of : List Word → Option Command
set_of (name ∷ equals ∷ v ∷ []) =
    if same_text equals (codes "=") then with_value (whole_target name) (value_word v) else None
set_of (name ∷ left ∷ k ∷ right ∷ equals ∷ v ∷ []) =
    if same_text equals (codes "=") then with_value (part_target name left k right) (value_word v) else None
set_of words = None

-- the forms of what follows a command's words
pub data Form : Type 0 where
  -- nothing
  Alone : Command → Form
  -- a number, 1 if there is none
  Counted : (ℕ → Command) → Form
  -- a number
  Numbered : (ℕ → Command) → Form
  -- a number or nothing
  MaybeNumbered : (Option ℕ → Command) → Form
  -- a target
  Targeted : (Target → Command) → Form
  -- a target, `=` and a value
  Assigned : Form

-- a number for a command that may have one
abbrev pub with_some_number : Option ℕ → (Option ℕ → Command) → Option Command
with_some_number None make = None
with_some_number (Some n) make = Some (make (Some n))

-- the command of a form and the words of this form
abbrev pub command_in : Form → List Word → Option Command
command_in (Alone command) [] = Some command
command_in (Counted make) [] = Some (make 1)
command_in (Counted make) (n ∷ []) = with_number (number n) make
command_in (Numbered make) (n ∷ []) = with_number (number n) make
command_in (MaybeNumbered make) [] = Some (make None)
command_in (MaybeNumbered make) (n ∷ []) = with_some_number (number n) make
command_in (Targeted make) words = with_target (target_of words) make
command_in Assigned words = set_of words
command_in form words = None

-- ---- the commands' words

-- a command's words, with the form of what follows
abbrev pub Entry : Type 0
Entry = List Word × Form

-- a command of one word
abbrev pub entry : Word → Form → Entry
entry word form = (word ∷ [], form)

-- a command of two words
abbrev pub entry_of_two : Word → Word → Form → Entry
entry_of_two first second form = (first ∷ second ∷ [], form)

-- a command of four words
abbrev pub entry_of_four : Word → Word → Word → Word → Form → Entry
entry_of_four first second third fourth form = (first ∷ second ∷ third ∷ fourth ∷ [], form)

-- all commands
abbrev pub commands : List Entry
commands =
    entry (codes "step") (Counted DoStep)
    ∷ entry (codes "s") (Counted DoStep)
    ∷ entry (codes "next") (Counted DoNext)
    ∷ entry (codes "n") (Counted DoNext)
    ∷ entry (codes "finish") (Alone DoFinish)
    ∷ entry (codes "continue") (Alone DoContinue)
    ∷ entry (codes "c") (Alone DoContinue)
    ∷ entry (codes "reverse-step") (Counted DoReverseStep)
    ∷ entry (codes "rs") (Counted DoReverseStep)
    ∷ entry (codes "reverse-next") (Counted DoReverseNext)
    ∷ entry (codes "rn") (Counted DoReverseNext)
    ∷ entry (codes "reverse-continue") (Alone DoReverseContinue)
    ∷ entry (codes "rc") (Alone DoReverseContinue)
    ∷ entry (codes "reverse-finish") (Alone DoReverseFinish)
    ∷ entry (codes "undo") (Alone DoUndo)
    ∷ entry (codes "print") (Targeted DoPrint)
    ∷ entry (codes "p") (Targeted DoPrint)
    ∷ entry_of_two (codes "set") (codes "var") Assigned
    ∷ entry_of_four (codes "set") (codes "record") (codes "full") (codes "insn-number-max") (Numbered DoSetHistory)
    ∷ entry (codes "break") (Numbered DoBreak)
    ∷ entry (codes "b") (Numbered DoBreak)
    ∷ entry (codes "watch") (Targeted DoWatch)
    ∷ entry (codes "delete") (MaybeNumbered DoDelete)
    ∷ entry_of_two (codes "info") (codes "breakpoints") (Alone DoInfoBreakpoints)
    ∷ entry_of_two (codes "info") (codes "locals") (Alone DoInfoLocals)
    ∷ entry (codes "backtrace") (Alone DoBacktrace)
    ∷ entry (codes "bt") (Alone DoBacktrace)
    ∷ entry (codes "quit") (Alone DoQuit)
    ∷ entry (codes "q") (Alone DoQuit)
    ∷ []

-- the words behind a command's words
abbrev pub words_behind : (command : List Word) → List Word → Option (List Word)
words_behind [] words = Some words
words_behind (first ∷ command) [] = None
words_behind (first ∷ command) (word ∷ words) = if same_text first word then words_behind command words else None

-- a form's command where a line has the command's words, else another one
abbrev pub command_or : Option (List Word) → Form → Option Command → Option Command
command_or (Some rest) form other = command_in form rest
command_or None form other = other

-- the command that words spell by a table: that of the one entry whose words they begin with
abbrev pub command_by : List Entry → List Word → Option Command
command_by [] words = None
command_by (entry ∷ entries) words = command_or (words_behind entry.0 words) entry.1 (command_by entries words)

-- whether a line begins with a blank
abbrev pub begins_blank : List ℕ → Bool
begins_blank [] = false
begins_blank (byte ∷ bytes) = is_blank byte

-- the command that a line of at most 256 bytes spells, its LF not included: nothing of a blank line, else that of its words
abbrev pub command_of_line : List ℕ → Option Command
command_of_line line = if all_are is_blank line then Some DoNothing
    else (if begins_blank line then None else command_by commands (words_of_line is_mark line))

-- the command that a line spells, if it spells one; a line of more than 256 bytes spells none
abbrev pub command_of : List ℕ → Option Command
command_of line = if nat_lt 256 (length line) then None else command_of_line line
