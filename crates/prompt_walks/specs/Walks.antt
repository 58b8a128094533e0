-- Walks through the run: `when`, and `info lanes`.
use Rattle.std.specs.Prelude.{ℕ, ◌&&◌, Bool, not, nat_lt, List, [], length, if◌then◌else◌}
use Rattle.gang_model.specs.Debugger.Debugger.{Command, Debugger, Setting, kept_steps}
use Rattle.prompt_lines.specs.Words.{is_alone}
use Rattle.prompt_moves.specs.Moments.{is_unset, is_whole, walked}

-- whether a command line asks something, all of which is held
abbrev pub is_asked : (text : List ℕ) → Bool
is_asked text = not (is_alone text) && nat_lt (length text) 257

-- through the whole run, where single steps lead to each moment of it and back
abbrev pub walked_if_known : Setting → Debugger → List Command
walked_if_known s d = if is_whole d && is_unset d then walked s.limit s d else []

-- `when`: through the whole run
abbrev pub when_by : Setting → Debugger → (text : List ℕ) → List Command
when_by s d text = if is_asked text then walked_if_known s d else []

-- through the run so far, where single steps lead to each moment of it and back
abbrev pub walked_so_far : Setting → Debugger → List Command
walked_so_far s d = if is_whole d && is_unset d then walked (kept_steps d) s d else []

-- `info lanes`: through the run so far
abbrev pub lanes_by : Setting → Debugger → (text : List ℕ) → List Command
lanes_by s d text = if is_alone text then walked_so_far s d else []
