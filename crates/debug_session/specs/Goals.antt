-- The goals of commands.
use Rattle.std.specs.Prelude.{Option, Some, None}
use Rattle.gang_model.specs.Debugger.Debugger as model
use Rattle.debug_session.specs.declared.goal.Goal.{Goal}
use Rattle.debug_session.specs.declared.goal.Goal.TheVariants as goal

-- a goal of the definitions
abbrev pub goal_view : Goal → model.Goal
goal_view (goal.Moves n) = model.Moves n
goal_view (goal.Groups left base) = model.Groups left base
goal_view (goal.Above base) = model.Above base
goal_view goal.Endless = model.NoGoal

-- a goal that is left, if one is
abbrev pub goal_option : Option Goal → Option model.Goal
goal_option None = None
goal_option (Some goal) = Some (goal_view goal)
