-- Fronts of words, as people type them: a command by three letters or more, and what `info` lists by one or more. Of two words with one front
-- the first one counts.
use Rattle.std.specs.Prelude.{ℕ, ◌&&◌, Bool, not, nat_lt, List, [], ◌∷◌, ◌++◌, length, Option, Some, None, codes, is_some, if◌then◌else◌}
use Rattle.gang_model.specs.Texts.Spellings.{Word, behind}
use Rattle.prompt_lines.specs.declared.line.Kind.{Kind}
use Rattle.prompt_lines.specs.declared.line.Kind.TheVariants as kind
use Rattle.prompt_lines.specs.declared.line.Look.TheVariants as look
use Rattle.prompt_lines.specs.Conditions.{behind_first, first_word}
use Rattle.prompt_lines.specs.Words.{Spelled, held_text}

-- a word, what is done with a line that begins with a front of it, and the debugger's own words for it
pub record FullWord : Type 0 where
  pub word : Word
  pub kind : Kind
  pub own : List ℕ

abbrev pub full : Word → Kind → List ℕ → FullWord
full word kind own = record { word = word; kind = kind; own = own }

-- what `info` lists; of registers, which are not there, what it lists is told
abbrev pub lists : List FullWord
lists =
    full (codes "breakpoints") kind.Own (codes "info breakpoints")
    ∷ full (codes "stack") (kind.Look look.Frames) (codes "delete")
    ∷ full (codes "frame") (kind.Look look.Frame) (codes "frame")
    ∷ full (codes "locals") (kind.Look look.Locals) []
    ∷ full (codes "args") (kind.Look look.Arguments) []
    ∷ full (codes "variables") (kind.Look look.Variables) []
    ∷ full (codes "functions") (kind.Look look.Functions) (codes "functions")
    ∷ full (codes "display") (kind.Look look.Displays) []
    ∷ full (codes "checkpoints") (kind.Look look.Checkpoints) []
    ∷ full (codes "registers") (kind.Look look.Lists) []
    ∷ full (codes "record") (kind.Look look.Recording) []
    ∷ full (codes "watchpoints") (kind.Look look.Watches) []
    ∷ full (codes "source") (kind.Look look.Source) []
    ∷ full (codes "line") (kind.Look look.Line) (codes "break")
    ∷ full (codes "program") (kind.Look look.Here) []
    ∷ full (codes "lanes") kind.Lanes (codes "lanes")
    ∷ []

-- the commands; `reverse-` is none, so that no shorter front moves the program
abbrev pub commands : List FullWord
commands =
    full (codes "step") kind.Own (codes "step")
    ∷ full (codes "next") kind.Own (codes "next")
    ∷ full (codes "continue") kind.Own (codes "continue")
    ∷ full (codes "finish") kind.Finish (codes "finish")
    ∷ full (codes "reverse-") kind.Own (codes "reverse-")
    ∷ full (codes "reverse-step") kind.Own (codes "reverse-step")
    ∷ full (codes "reverse-next") kind.Own (codes "reverse-next")
    ∷ full (codes "reverse-continue") kind.Own (codes "reverse-continue")
    ∷ full (codes "reverse-finish") kind.Own (codes "reverse-finish")
    ∷ full (codes "until") kind.Until (codes "break")
    ∷ full (codes "advance") kind.Until (codes "break")
    ∷ full (codes "start") kind.Start (codes "start")
    ∷ full (codes "break") kind.Break (codes "break")
    ∷ full (codes "tbreak") kind.Temporary (codes "break")
    ∷ full (codes "watch") kind.Watch (codes "watch")
    ∷ full (codes "condition") kind.Condition []
    ∷ full (codes "ignore") kind.Ignore []
    ∷ full (codes "delete") kind.Delete (codes "delete")
    ∷ full (codes "clear") kind.Clear (codes "break")
    ∷ full (codes "disable") kind.Disable (codes "disable")
    ∷ full (codes "enable") kind.Enable (codes "enable")
    ∷ full (codes "print") kind.Print (codes "print")
    ∷ full (codes "output") kind.Print (codes "print")
    ∷ full (codes "display") kind.Display (codes "print")
    ∷ full (codes "undisplay") kind.Undisplay (codes "delete")
    ∷ full (codes "backtrace") (kind.Look look.Frames) (codes "delete")
    ∷ full (codes "where") (kind.Look look.Frames) (codes "delete")
    ∷ full (codes "frame") (kind.Look look.Frame) (codes "frame")
    ∷ full (codes "down") (kind.Look look.Down) (codes "step")
    ∷ full (codes "list") (kind.Look look.List) (codes "break")
    ∷ full (codes "whatis") (kind.Look look.Type) (codes "print")
    ∷ full (codes "ptype") (kind.Look look.Type) (codes "print")
    ∷ full (codes "checkpoint") kind.Checkpoint (codes "checkpoint")
    ∷ full (codes "restart") kind.Restart (codes "goto")
    ∷ full (codes "goto") kind.Goto (codes "goto")
    ∷ full (codes "last") kind.Last (codes "watch")
    ∷ full (codes "changes") kind.Changes (codes "watch")
    ∷ full (codes "record") (kind.Look look.Recording) []
    ∷ full (codes "info") (kind.Look look.Lists) []
    ∷ full (codes "inspect") kind.Print (codes "print")
    ∷ full (codes "help") (kind.Look look.Help) []
    ∷ full (codes "quit") kind.Own (codes "quit")
    ∷ full (codes "exit") kind.Own (codes "quit")
    ∷ []

-- whether a word begins with another one, or is it
abbrev pub is_front : (front word : Word) → Bool
is_front front word = is_some (behind front word)

-- the first of some words that has a front
abbrev pub first_of : List FullWord → (front : Word) → (rest : List ℕ) → Option Spelled
first_of [] front rest = None
first_of (full ∷ words) front rest =
    if is_front front full.word then Some (record { kind = full.kind; text = held_text (full.own ++ 32 ∷ rest) }) else first_of words front rest

-- a text that begins with a front of at least so many letters, by words
abbrev pub by_front : (least : ℕ) → List FullWord → List ℕ → Option Spelled
by_front least words text = if nat_lt (length (first_word text)) least then None else first_of words (first_word text) (behind_first text)

-- whether a word is a front of `info`
abbrev pub is_info : Word → Bool
is_info word = not (nat_lt (length word) 1) && is_front word (codes "info")

-- a text that begins with a front of `info`, by what that lists
abbrev pub listed : List ℕ → Option Spelled
listed text = if is_info (first_word text) then by_front 1 lists (behind_first text) else None

-- a text that begins with a front of a command
abbrev pub begun : List ℕ → Option Spelled
begun text = by_front 3 commands text
