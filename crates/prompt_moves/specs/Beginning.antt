-- `run` and `start`: the program begins, or begins anew.
use Rattle.std.specs.Prelude.{ℕ, ◌&&◌, List, [], ◌++◌, Option, Some, None, if◌then◌else◌}
use Rattle.gang_model.specs.Debugger.Debugger.{AtBreakpoint, Command, Debugger, DoContinue, Setting}
use Rattle.prompt_scenes.specs.Holding.{Held}
use Rattle.prompt_scenes.specs.Changes.{not_begun}
use Rattle.prompt_moves.specs.Moments.{all_back, at_first, is_whole, if_whole}
use Rattle.prompt_moves.specs.Following.{after_command, begun, done_with, follows, shown}
use Rattle.prompt_moves.specs.Breakpoints.{stop_here}

-- `run` stops at once at a breakpoint where it stands already, else it goes on
abbrev pub ran : Setting → Debugger → Held → (at : Option ℕ) → List Command
ran s d h None = done_with s d h DoContinue
ran s d h (Some number) = follows h (AtBreakpoint number)

-- the program begins anew: everything is taken back, and then it runs as at first
abbrev pub ran_anew : Setting → Debugger → Held → List Command
ran_anew s d h = all_back d ++ ran s (at_first d) h (stop_here s (at_first d))

-- `run`: a program that has not begun begins, and another one anew
abbrev pub run_by : Setting → Debugger → Held → List Command
run_by s d h = if h.has_begun then if_whole d (ran_anew s d h) else ran s d h (stop_here s d)

-- everything is taken back, and all that is displayed is printed
abbrev pub started_anew : Debugger → Held → List Command
started_anew d h = all_back d ++ shown h.displays

-- `start`: a program that has begun is taken back to its start
abbrev pub start_by : Debugger → Held → List Command
start_by d h = if h.has_begun then if_whole d (started_anew d h) else []

-- what a run that begins changes
abbrev pub after_run : Setting → Debugger → Held → (at : Option ℕ) → Held
after_run s d h None = after_command s d h DoContinue
after_run s d h (Some number) = begun h (AtBreakpoint number)

-- what `run` changes
abbrev pub after_run_by : Setting → Debugger → Held → Held
after_run_by s d h = if h.has_begun then (if is_whole d then after_run s (at_first d) h (stop_here s (at_first d)) else h) else after_run s d h (stop_here s d)

-- what `start` changes
abbrev pub after_start : Debugger → Held → Held
after_start d h = if h.has_begun && is_whole d then not_begun h else h
