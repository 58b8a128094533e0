-- A command, and what follows a move: the temporary breakpoint that stopped it is deleted, and what is displayed is printed.
use Rattle.std.specs.Prelude.{ℕ, ◌==◌, List, [], ◌∷◌, ◌++◌, Option, Some, None, if◌then◌else◌}
use Rattle.std.specs.List.{list_any}
use Rattle.gang_model.specs.Debugger.Debugger.{Answer, Command, Debugger, DoDelete, DoPrint, Setting, Target, do_command}
use Rattle.gang_model.specs.Texts.CommandText.{command_of}
use Rattle.prompt_scenes.specs.Conditions.{forgotten_stop}
use Rattle.prompt_scenes.specs.Holding.{Held}
use Rattle.prompt_scenes.specs.Readings.{is_refusal, last_move, moves, print_of, stopped_number}
use Rattle.prompt_scenes.specs.Changes.{started}

-- the breakpoint that stopped a move is deleted, where it is temporary
abbrev pub deleted : (temporaries : List ℕ) → (stopped : Option ℕ) → List Command
deleted temporaries None = []
deleted temporaries (Some n) = if list_any (λ t. t == n) temporaries then DoDelete (Some n) ∷ [] else []

-- a target is printed
abbrev pub printed : Option Target → List Command
printed None = []
printed (Some target) = DoPrint target ∷ []

-- all that is displayed is printed
abbrev pub shown : (displays : List (ℕ × List ℕ)) → List Command
shown [] = []
shown (entry ∷ displays) = printed (print_of (command_of entry.1)) ++ shown displays

-- what follows a move, by its answer
abbrev pub follows : Held → Answer → List Command
follows h answer = if is_refusal answer then [] else deleted h.temporaries (stopped_number answer) ++ shown h.displays

-- a command, and what follows a move
abbrev pub done_with : Setting → Debugger → Held → Command → List Command
done_with s d h command = command ∷ (if moves command then follows h (do_command s command d).answer else [])

-- the command that a command line spells
abbrev pub own : Setting → Debugger → Held → Option Command → List Command
own s d h None = []
own s d h (Some command) = done_with s d h command

-- a move that was not refused has begun the program, and the top frame is selected; what stopped it is held, and what was said of the
-- temporary breakpoint that did is forgotten
abbrev pub begun : Held → Answer → Held
begun h answer = if is_refusal answer then h else forgotten_stop (stopped_number answer) (record (started h) { last_move = last_move answer })

-- what a command changes
abbrev pub after_command : Setting → Debugger → Held → Command → Held
after_command s d h command = if moves command then begun h (do_command s command d).answer else h

-- what the command that a command line spells changes
abbrev pub after_own : Setting → Debugger → Held → Option Command → Held
after_own s d h None = h
after_own s d h (Some command) = after_command s d h command
