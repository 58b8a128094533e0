-- How the lines are read that people type: each stands for a command line of the debugger, and a kind says what is done with it.
use Rattle.std.specs.Prelude.{List, [], ◌∷◌, ℕ, ◌==◌, Bool, Option, Some, None, if◌then◌else◌}
use Rattle.std.specs.Option.{option_or}
use Rattle.prompt_lines.specs.declared.line.Kind.TheVariants as kind
use Rattle.prompt_lines.specs.declared.line.Look.TheVariants as look
use Rattle.prompt_lines.specs.Fronts.{begun, listed}
use Rattle.prompt_lines.specs.Words.{Spelled, found_by, held_text, letters, looks, rows, unblanked}

-- a text as it was found, else the debugger's own words
abbrev pub own_or : Option Spelled → List ℕ → Spelled
own_or None text = record { kind = kind.Own; text = held_text text }
own_or (Some line) text = line

-- a text by what is looked at, else by a front of a command
abbrev pub look_or_begun : List ℕ → Option Spelled
look_or_begun text = option_or (found_by looks text) (begun text)

-- a text by what `info` lists, else by these
abbrev pub list_or_look : List ℕ → Option Spelled
list_or_look text = option_or (listed text) (look_or_begun text)

-- a text by what is done, else by these, else the debugger's own words
abbrev pub done_or_own : List ℕ → Spelled
done_or_own text = own_or (option_or (found_by rows text) (list_or_look text)) text

-- a text with a letter behind a blank, else one that is read by the other tables
abbrev pub letters_or : Option Spelled → List ℕ → Spelled
letters_or None text = done_or_own text
letters_or (Some line) text = line

-- whether a byte begins a comment: it is `#`
abbrev pub begins_comment : (byte : ℕ) → Bool
begins_comment byte = byte == 35

-- a comment: no text is written, and nothing else is done
abbrev pub comment : Spelled
comment = record { kind = kind.Look look.Text; text = [] }

-- a text that has no blank at its beginning
abbrev pub text_spelled : List ℕ → Spelled
text_spelled [] = record { kind = kind.Again; text = [] }
text_spelled (byte ∷ bytes) = if begins_comment byte then comment else letters_or (found_by letters (byte ∷ bytes)) (byte ∷ bytes)

-- what a line stands for, its LF not included
abbrev pub line_of : List ℕ → Spelled
line_of line = text_spelled (unblanked line)
