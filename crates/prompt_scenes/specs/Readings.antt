-- What command lines, commands and answers tell.
use Rattle.std.specs.Prelude.{ℕ, ◌-◌, ◌==◌, Bool, true, false, not, List, drop, take, length, Option, Some, None, option_and_then, if◌then◌else◌}
use Rattle.std.specs.List.{list_any, suffix_len}
use Rattle.gang_model.specs.Debugger.Debugger.{Answer, AtBreakpoint, AtWatch, BreaksAt, Command, DoContinue, DoDelete, DoFinish, DoNext, DoPrint, DoReverseContinue, DoReverseFinish, DoReverseNext, DoReverseStep, DoSet, DoSetIn, DoStep, DoUndo, DoWatch, Refused, Shows, Target, Watches, Here, HistoryEnd}
use Rattle.gang_model.specs.Texts.CommandText.{command_of, index}
use Rattle.gang_model.specs.Texts.Spellings.{is_blank}
use Rattle.prompt_lines.specs.Words.{argument_of, moment_of}
use Rattle.prompt_scenes.specs.declared.holding.LastMove.{LastMove}
use Rattle.prompt_scenes.specs.declared.holding.LastMove.TheVariants as last

-- whether a command moves
abbrev pub moves : Command → Bool
moves (DoStep n) = true
moves (DoNext n) = true
moves (DoReverseStep n) = true
moves (DoReverseNext n) = true
moves DoFinish = true
moves DoContinue = true
moves DoReverseFinish = true
moves DoReverseContinue = true
moves DoUndo = true
moves command = false

-- whether a name stands for some elements of an array, as `table@8` does
abbrev pub names_part : (name : List ℕ) → Bool
names_part = list_any (λ byte. byte == 64)

-- the target that a command prints
abbrev pub print_of : Option Command → Option Target
print_of (Some (DoPrint target)) = if names_part target.name then None else Some target
print_of command = None

-- the number that a command deletes, or all
abbrev pub delete_of : Option Command → Option (Option ℕ)
delete_of (Some (DoDelete n)) = Some n
delete_of command = None

-- the breakpoint that stopped a move
abbrev pub stopped_number : Answer → Option ℕ
stopped_number (AtBreakpoint n) = Some n
stopped_number answer = None

-- the breakpoint or watch that stopped a move, or none
abbrev pub last_move : Answer → LastMove
last_move (AtBreakpoint n) = last.Stopped n
last_move (AtWatch n) = last.Stopped n
last_move answer = last.Free

-- the breakpoint that was made
abbrev pub made_number : Answer → Option ℕ
made_number (BreaksAt n line) = Some n
made_number answer = None

-- the target that a command watches
abbrev pub watch_of : Option Command → Option Target
watch_of (Some (DoWatch target)) = Some target
watch_of command = None

-- the watch that was made
abbrev pub watch_number : Answer → Option ℕ
watch_number (Watches n target) = Some n
watch_number answer = None

-- the number of steps that a command line names
abbrev pub step_named : (text : List ℕ) → Option ℕ
step_named text = option_and_then moment_of (argument_of text)

-- the number that a command line names
abbrev pub index_named : (text : List ℕ) → Option ℕ
index_named text = option_and_then index (argument_of text)

-- a text without the blanks at its end
abbrev pub trimmed : List ℕ → List ℕ
trimmed text = take (length text - suffix_len is_blank text) text

-- where the last word of a text begins: behind the last blank
abbrev pub last_place : List ℕ → ℕ
last_place text = length text - suffix_len (λ byte. not (is_blank byte)) text

-- a target, and a number
abbrev pub with_count : Option Target → (number : Option ℕ) → Option (Target × ℕ)
with_count None number = None
with_count (Some target) None = None
with_count (Some target) (Some n) = Some (target, n)

-- a target and the number behind it
abbrev pub counted : (text : List ℕ) → Option (Target × ℕ)
counted text = with_count (watch_of (command_of (take (last_place text) text))) (index (drop (last_place text) text))

-- the target whose changes a command line names, and how many of them at most: ten, or a number behind it
abbrev pub ten_or : Option Target → (other : Option (Target × ℕ)) → Option (Target × ℕ)
ten_or None other = other
ten_or (Some target) other = Some (target, 10)

abbrev pub changes_named : (text : List ℕ) → Option (Target × ℕ)
changes_named text = ten_or (watch_of (command_of text)) (counted (trimmed text))

-- so many times a step
abbrev pub count_of : Option Command → Option ℕ
count_of (Some (DoStep n)) = Some n
count_of command = None

-- whether a target is shown
abbrev pub is_shown : Answer → Bool
is_shown (Shows target v) = true
is_shown answer = false

-- whether a command is refused
abbrev pub is_refusal : Answer → Bool
is_refusal (Refused r) = true
is_refusal answer = false

-- whether a goal is reached, or the end
abbrev pub is_here : Answer → Bool
is_here Here = true
is_here answer = false

-- whether a breakpoint or a watch stopped a move
abbrev pub is_stop : Answer → Bool
is_stop (AtBreakpoint n) = true
is_stop (AtWatch n) = true
is_stop answer = false

-- whether the history goes back no further
abbrev pub is_history_end : Answer → Bool
is_history_end HistoryEnd = true
is_history_end answer = false

-- whether a command repeats by an empty line
abbrev pub command_repeats : Option Command → Bool
command_repeats None = false
command_repeats (Some (DoPrint target)) = true
command_repeats (Some command) = moves command

-- whether a command sets a target
abbrev pub sets : Option Command → Bool
sets (Some (DoSet target z)) = true
sets (Some (DoSetIn deep target z)) = true
sets command = false
