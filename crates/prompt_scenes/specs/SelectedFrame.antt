-- The frame that is selected, and what is shown and done in it.
use Rattle.std.specs.Prelude.{ℕ, ◌+◌, ◌-◌, ◌==◌, Bool, true, false, nat_lt, List, [], length, Option, Some, None, is_none, option_and_then, option_map, if◌then◌else◌}
use Rattle.gang_model.specs.Debugger.Debugger.{Command, Debugger, DoPrint, Setting, Target, bad_part, depth, do_command, now, shown_words}
use Rattle.gang_model.specs.Types.Tree.{Variable}
use Rattle.gang_model.specs.Texts.CommandText.{index}
use Rattle.debug_traits.specs.Frames.{found_at, state_at}
use Rattle.prompt_lines.specs.Words.{argument_of, is_alone}
use Rattle.prompt_scenes.specs.Holding.{Held}
use Rattle.prompt_scenes.specs.Readings.{is_shown}

-- the depth of the frame that is selected
abbrev pub depth_of : Setting → Debugger → Held → ℕ
depth_of s d h = depth (now s d) - h.frame

-- the number of the frame that a command line names, or of the one that is selected
abbrev pub frame_named : Held → (text : List ℕ) → Option ℕ
frame_named h text = if is_alone text then Some h.frame else option_and_then index (argument_of text)

-- the number of the frame so many calls above the one that is selected
abbrev pub frame_above : Held → Option ℕ → Option ℕ
frame_above h calls = option_map (λ n. h.frame + n) calls

-- the number of the frame so many calls below it, at least that of the top frame
abbrev pub frame_below : Held → Option ℕ → Option ℕ
frame_below h calls = option_map (λ n. h.frame - n) calls

-- a frame is selected, if there is one of this number
abbrev pub selected : Setting → Debugger → Held → (number : Option ℕ) → Held
selected s d h None = h
selected s d h (Some n) = if nat_lt n (depth (now s d)) then record h { frame = n } else h

-- what is done in the top frame alone
abbrev pub in_top : Held → List Command → List Command
in_top h commands = if h.frame == 0 then commands else []

-- whether a target can be shown of what its name stands for in the frame at a depth
abbrev pub can_show : Setting → Debugger → (depth : ℕ) → Target → Option Variable → Bool
can_show s d deep target None = false
can_show s d deep target (Some v) = is_none (bad_part true target.at v.is_array v.rate (length (shown_words (state_at deep (now s d)) v)))

-- whether a target is shown in the frame that is selected
abbrev pub shows : Setting → Debugger → Held → Target → Bool
shows s d h target =
    if h.frame == 0 then is_shown (do_command s (DoPrint target) d).answer
    else can_show s d (depth_of s d h) target (found_at s.program (depth_of s d h) (now s d) target.name)
