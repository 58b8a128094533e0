-- What follows a move, by its answer as it is given.
use Rattle.std.specs.Prelude.{List, [], ◌++◌, if◌then◌else◌}
use Rattle.gang_model.specs.Debugger.Debugger.{Command}
use Rattle.debug_answers.specs.declared.answer.Answer.{Answer}
use Rattle.prompt_scenes.specs.Conditions.{forgotten_stop}
use Rattle.prompt_scenes.specs.Holding.{Held}
use Rattle.prompt_scenes.specs.Given.{is_refusal, last_move, stopped_number}
use Rattle.prompt_scenes.specs.Changes as changes
use Rattle.prompt_moves.specs.Following as following

-- what follows a move
abbrev pub follows : Held → Answer → List Command
follows h given = if is_refusal given then [] else following.deleted h.temporaries (stopped_number given) ++ following.shown h.displays

-- a move that was not refused has begun the program, and the top frame is selected; what stopped it is held, and what was said of the
-- temporary breakpoint that did is forgotten
abbrev pub begun : Held → Answer → Held
begun h given = if is_refusal given then h else forgotten_stop (stopped_number given) (record (changes.started h) { last_move = last_move given })
