-- What an answer tells, as it is given.
use Rattle.std.specs.Prelude.{ℕ, Bool, true, false, Option, Some, None}
use Rattle.gang_model.specs.Debugger.Debugger.{Target}
use Rattle.debug_commands.specs.Views.{target_view}
use Rattle.debug_answers.specs.declared.answer.Answer.{Answer}
use Rattle.debug_commands.specs.declared.command.Target as declared
use Rattle.debug_answers.specs.declared.answer.Answer.TheVariants as answer
use Rattle.prompt_scenes.specs.declared.holding.LastMove.{LastMove}
use Rattle.prompt_scenes.specs.declared.holding.LastMove.TheVariants as last

-- the breakpoint that stopped a move
abbrev pub stopped_number : Answer → Option ℕ
stopped_number (answer.AtBreakpoint n) = Some n
stopped_number given = None

-- the breakpoint or watch that stopped a move, or none
abbrev pub last_move : Answer → LastMove
last_move (answer.AtBreakpoint n) = last.Stopped n
last_move (answer.AtWatch n) = last.Stopped n
last_move given = last.Free

-- the breakpoint that was made
abbrev pub made_number : Answer → Option ℕ
made_number (answer.BreaksAt n line) = Some n
made_number given = None

-- the watch that was made
abbrev pub watch_number : Answer → Option ℕ
watch_number (answer.Watches n target) = Some n
watch_number given = None

-- whether a breakpoint or a watch stopped a move
abbrev pub is_stop : Answer → Bool
is_stop (answer.AtBreakpoint n) = true
is_stop (answer.AtWatch n) = true
is_stop given = false

-- whether the history goes back no further
abbrev pub is_history_end : Answer → Bool
is_history_end answer.HistoryEnd = true
is_history_end given = false

-- whether a goal is reached, or the end
abbrev pub is_here : Answer → Bool
is_here answer.Here = true
is_here given = false

-- whether a step was taken back
abbrev pub is_undone_step : Answer → Bool
is_undone_step answer.UndoneStep = true
is_undone_step given = false

-- whether a target is shown
abbrev pub is_shown : Answer → Bool
is_shown (answer.Shows target shown) = true
is_shown given = false

-- whether a command is refused
abbrev pub is_refusal : Answer → Bool
is_refusal (answer.Refused r) = true
is_refusal given = false

-- a target and a number, as the definitions have them
abbrev pub counted_view : Option (declared.Target × ℕ) → Option (Target × ℕ)
counted_view None = None
counted_view (Some named) = Some (target_view named.0, named.1)
