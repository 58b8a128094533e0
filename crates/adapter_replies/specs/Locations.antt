-- The lines on which a breakpoint can stand.
use Rattle.std.specs.Prelude.{ℕ, ◌+◌, ◌-◌, ◌==◌, Bool, true, false, List, [], map, min, nat_lt, Option, Some, None, if◌then◌else◌, unwrap_or}
use Rattle.std.specs.List.{filter, range_with_len}
use Rattle.gang_model.specs.Types.Tree.{Program}
use Rattle.gang_model.specs.Debugger.Debugger.{Setting, least_from, step_lines}

-- whether a line is this one
abbrev pub is_line : Option ℕ → ℕ → Bool
is_line None line = false
is_line (Some found) line = found == line

-- whether a line has a place: it is the first one from itself on that has one
abbrev pub has_place : Program → ℕ → Bool
has_place p line = is_line (least_from line (step_lines p)) line

-- how many lines there are from one to another, at most 1,000
abbrev pub line_count : (first last : ℕ) → ℕ
line_count first last = if nat_lt last first then 0 else min (last - first) 999 + 1

-- those of some lines, one after another, that have a place
abbrev pub places_among : Program → (first count : ℕ) → List ℕ
places_among p first count = filter (has_place p) (map (λ index. first + index) (range_with_len 0 count))

-- the line to whose times the program can go: the first one from a line on that has a place; another source has none
abbrev pub goto_line : Setting → (is_program : Bool) → (line : ℕ) → Option ℕ
goto_line s false line = None
goto_line s true line = least_from line (step_lines s.program)

-- what is told of the lines from one to another, or of the one alone; another source has none
abbrev pub told_places : Setting → (is_program : Bool) → (first : ℕ) → (last : Option ℕ) → List ℕ
told_places s false first last = []
told_places s true first last = places_among s.program first (line_count first (unwrap_or last first))
