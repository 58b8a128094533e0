-- Lines that go to a moment, note one or forget it.
use Rattle.std.specs.Prelude.{ℕ, List, [], ◌∷◌, ◌++◌, Option, Some, None, codes, flat_map, if◌then◌else◌}
use Rattle.gang_model.specs.Debugger.Debugger.{Command, Debugger, Setting, kept_steps}
use Rattle.gang_model.specs.Texts.Text.{Bytes}
use Rattle.prompt_texts.specs.Moments.{checkpoint_text}
use Rattle.prompt_scenes.specs.Holding.{Held}
use Rattle.prompt_scenes.specs.Changes.{started, with_checkpoint, without_checkpoint}
use Rattle.prompt_moves.specs.Moments.{is_whole, to_moment, if_whole}
use Rattle.prompt_moves.specs.Following.{shown}

-- to a moment, and all that is displayed is printed
abbrev pub went_to : ℕ → Setting → Debugger → Held → List Command
went_to n s d h = to_moment n s d ++ shown h.displays

-- to a moment, where one is named
abbrev pub go_by : Setting → Debugger → Held → (step : Option ℕ) → List Command
go_by s d h None = []
go_by s d h (Some n) = if_whole d (went_to n s d h)

-- what going to a moment changes
abbrev pub after_go : Debugger → Held → (step : Option ℕ) → Held
after_go d h None = h
after_go d h (Some n) = if is_whole d then started h else h

-- the moment is noted, where its number of steps is known
abbrev pub after_checkpoint : Debugger → Held → Held
after_checkpoint d h = if is_whole d then with_checkpoint h (kept_steps d) else h

-- what has a number is noted no more
abbrev pub after_forget : Held → Option (Option ℕ) → Held
after_forget h None = h
after_forget h (Some number) = without_checkpoint h number

-- the moments that were noted, a line for each, or that there are none
abbrev pub line_text : ℕ × ℕ → Bytes
line_text noted = checkpoint_text noted.0 noted.1

abbrev pub checkpoints_text : List (ℕ × ℕ) → Bytes
checkpoints_text [] = codes "no checkpoints\n"
checkpoints_text (noted ∷ others) = flat_map line_text (noted ∷ others)
