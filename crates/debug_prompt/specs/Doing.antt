-- What is done for a line: a list of the debugger's commands, by what the prompt holds, where the debugger stands and the line.
-- What a prompt does beside a command is done by commands too: what is displayed is printed, and a temporary breakpoint is deleted.
use Rattle.std.specs.Prelude.{ℕ, ◌==◌, Bool, true, false, not, List, [], Option, Some, if◌then◌else◌}
use Rattle.gang_model.specs.Debugger.Debugger.{Command, Debugger, DoNext, DoQuit, Setting}
use Rattle.gang_model.specs.Texts.CommandText.{command_of, index}
use Rattle.prompt_lines.specs.declared.line.Kind.{Kind}
use Rattle.prompt_lines.specs.Conditions.{before_if, behind_first, condition_in, first_word}
use Rattle.prompt_lines.specs.Sources.{Sheet, line_named}
use Rattle.prompt_lines.specs.Lines.{line_of}
use Rattle.prompt_lines.specs.Words.{Spelled, is_alone, setting_text}
use Rattle.prompt_lines.specs.declared.line.Kind.TheVariants as kind
use Rattle.prompt_lines.specs.declared.line.Look.TheVariants as look
use Rattle.prompt_scenes.specs.Conditions.{after_condition, after_ignore, forgotten_one}
use Rattle.prompt_scenes.specs.Holding.{Held, nothing_kept}
use Rattle.prompt_scenes.specs.Readings.{changes_named, command_repeats, count_of, delete_of, index_named, print_of, sets, step_named, trimmed, watch_of}
use Rattle.prompt_scenes.specs.SelectedFrame.{frame_above, frame_below, frame_named, in_top, selected}
use Rattle.prompt_scenes.specs.Changes.{step_noted}
use Rattle.prompt_moves.specs.Noted.{after_checkpoint, after_forget, after_go, go_by}
use Rattle.prompt_moves.specs.Following.{after_command, after_own, done_with, own, printed, shown}
use Rattle.prompt_moves.specs.Beginning.{after_run_by, after_start, run_by, start_by}
use Rattle.prompt_moves.specs.Breakpoints.{stop_on}
use Rattle.prompt_stops.specs.Breaking.{after_break, after_deletes, after_disable, after_enable, after_made, after_watch_by, broken, cleared, deletes_by, watched_by, write_name, written_in}
use Rattle.prompt_past.specs.Past.{after_last_of, changes_of, last_of}
use Rattle.prompt_walks.specs.Walks.{lanes_by, when_by}
use Rattle.prompt_going.specs.Until.{after_until, until_line}
use Rattle.debug_prompt.specs.declared.prompt.Turn.{Turn}
use Rattle.debug_prompt.specs.Printing.{after_delete, after_print, printed_or_set, set_by}
use Rattle.debug_prompt.specs.declared.prompt.Turn.TheVariants as turn

abbrev pub meant_by : Kind → (kept line : Spelled) → Spelled
meant_by kind.Again kept line = kept
meant_by other kept line = line

-- an empty line means the one that was kept
abbrev pub meant : (kept : Spelled) → (line : List ℕ) → Spelled
meant kept line = meant_by (line_of line).kind kept (line_of line)

-- what is done with a command line of a kind
abbrev pub commands_by : Kind → Sheet → Setting → Debugger → Held → (text : List ℕ) → List Command
commands_by kind.Own sheet s d h text = own s d h (command_of text)
commands_by kind.Finish sheet s d h text = in_top h (own s d h (command_of text))
commands_by kind.Print sheet s d h text = printed_or_set s d h (print_of (command_of text)) (command_of (setting_text text))
commands_by kind.Set sheet s d h text = set_by s d h (command_of text)
commands_by kind.Break sheet s d h text = broken (line_named sheet (before_if text))
commands_by kind.Run sheet s d h text = if is_alone text then run_by s d h else []
commands_by kind.Start sheet s d h text = if is_alone text then start_by d h else []
commands_by kind.Clear sheet s d h text = cleared (stop_on s d (line_named sheet text))
commands_by kind.Temporary sheet s d h text = broken (line_named sheet (before_if text))
commands_by kind.Watch sheet s d h text = watched_by s d h (write_name text) (watch_of (command_of (before_if text))) (written_in text)
commands_by kind.Delete sheet s d h text = deletes_by d h (delete_of (command_of text)) text
commands_by kind.Until sheet s d h text = if is_alone text then done_with s d h (DoNext 1) else until_line s d h (line_named sheet text)
commands_by kind.Display sheet s d h text = in_top h (if is_alone text then shown h.displays else printed (print_of (command_of text)))
commands_by kind.Goto sheet s d h text = go_by s d h (step_named text)
commands_by kind.Restart sheet s d h text = go_by s d h (step_noted h (index_named text))
commands_by kind.Last sheet s d h text = last_of s d h (watch_of (command_of text))
commands_by kind.Changes sheet s d h text = changes_of s d h (changes_named text)
commands_by kind.When sheet s d h text = when_by s d text
commands_by kind.Lanes sheet s d h text = lanes_by s d text
commands_by kind sheet s d h text = []

-- the commands that are done for a line, where one is kept
abbrev pub commands_of : Sheet → (kept : Spelled) → Held → Setting → Debugger → (line : List ℕ) → List Command
commands_of sheet kept h s d line = commands_by (meant kept line).kind sheet s d h (meant kept line).text

-- what a command line of a kind changes
abbrev pub changed_by : Kind → Sheet → Setting → Debugger → Held → (text : List ℕ) → Held
changed_by kind.Own sheet s d h text = after_own s d h (command_of text)
changed_by kind.Finish sheet s d h text = if h.frame == 0 then after_own s d h (command_of text) else h
changed_by kind.Run sheet s d h text = if is_alone text then after_run_by s d h else h
changed_by kind.Start sheet s d h text = if is_alone text then after_start d h else h
changed_by kind.Until sheet s d h text = if is_alone text then after_command s d h (DoNext 1) else after_until s d h (line_named sheet text)
changed_by kind.Break sheet s d h text = after_made s d h (line_named sheet (before_if text)) (condition_in text)
changed_by kind.Temporary sheet s d h text = after_made s d (after_break s d h (line_named sheet (before_if text))) (line_named sheet (before_if text)) (condition_in text)
changed_by kind.Watch sheet s d h text = after_watch_by s d h (write_name text) (watch_of (command_of (before_if text))) (written_in text) (condition_in text)
changed_by kind.Clear sheet s d h text = forgotten_one (stop_on s d (line_named sheet text)) h
changed_by kind.Delete sheet s d h text = after_deletes d h (delete_of (command_of text)) text
changed_by kind.Disable sheet s d h text = after_disable d h text
changed_by kind.Enable sheet s d h text = after_enable d h text
changed_by kind.Condition sheet s d h text = after_condition d h (index (first_word text)) (behind_first text)
changed_by kind.Ignore sheet s d h text = after_ignore d h (index (first_word text)) (index (trimmed (behind_first text)))
changed_by kind.Display sheet s d h text = if is_alone text then h else after_print s d h text (print_of (command_of text))
changed_by kind.Undisplay sheet s d h text = after_delete h (delete_of (command_of text))
changed_by (kind.Look look.Frame) sheet s d h text = selected s d h (frame_named h text)
changed_by (kind.Look look.Up) sheet s d h text = selected s d h (frame_above h (count_of (command_of text)))
changed_by (kind.Look look.Down) sheet s d h text = selected s d h (frame_below h (count_of (command_of text)))
changed_by kind.Goto sheet s d h text = after_go d h (step_named text)
changed_by kind.Restart sheet s d h text = after_go d h (step_noted h (index_named text))
changed_by kind.Last sheet s d h text = after_last_of s d h (watch_of (command_of text))
changed_by kind.Checkpoint sheet s d h text = if is_alone text then after_checkpoint d h else h
changed_by kind.Forget sheet s d h text = after_forget h (delete_of (command_of text))
changed_by kind sheet s d h text = h

-- what is held after a line
abbrev pub held_after : Sheet → (kept : Spelled) → Held → Setting → Debugger → (line : List ℕ) → Held
held_after sheet kept h s d line = changed_by (meant kept line).kind sheet s d h (meant kept line).text

-- whether a command line of a kind does
abbrev pub repeats : Kind → (text : List ℕ) → Bool
repeats kind.Own text = command_repeats (command_of text)
repeats kind.Finish text = command_repeats (command_of text)
repeats kind.Print text = not (sets (command_of (setting_text text)))
repeats kind.Until text = true
repeats kind.Formatted text = true
repeats kind.Last text = true
repeats (kind.Look look.List) text = true
repeats (kind.Look look.Up) text = true
repeats (kind.Look look.Down) text = true
repeats kind text = false

-- a line that repeats
abbrev pub if_repeats : Spelled → Spelled
if_repeats line = if repeats line.kind line.text then line else nothing_kept

-- the line that is kept after a line
abbrev pub kept_after : (kept : Spelled) → (line : List ℕ) → Spelled
kept_after kept line = if_repeats (meant kept line)

-- whether a command line of a kind quits
abbrev pub quits : Kind → Option Command → Bool
quits kind.Own (Some DoQuit) = true
quits kind command = false

-- what a line leads to: the writer has failed by then, or the line quits, or neither
abbrev pub turn_of : (failed : Bool) → Spelled → Turn
turn_of failed line = if failed then turn.Fails else (if quits line.kind (command_of line.text) then turn.Quits else turn.Goes)
