-- How what is held changes: what has begun, temporary breakpoints, what is displayed, and moments that were noted.
use Rattle.std.specs.Prelude.{ℕ, ◌+◌, ◌==◌, ◌&&◌, true, false, not, nat_lt, List, [], ◌∷◌, ◌++◌, drop, length, filter, Option, Some, None, if◌then◌else◌}
use Rattle.prompt_lines.specs.Words.{held_text}
use Rattle.prompt_scenes.specs.Holding.{Held}
use Rattle.prompt_scenes.specs.Readings.{last_move}
use Rattle.prompt_scenes.specs.declared.holding.LastMove.TheVariants as last

-- the program has begun, and the top frame is selected; a move was made that nothing stopped
abbrev pub started : Held → Held
started h = record h { has_begun = true; frame = 0; last_move = last.Free }

-- the program has not begun
abbrev pub not_begun : Held → Held
not_begun h = record h { has_begun = false; frame = 0; last_move = last.Free }

-- numbers with one more, the oldest of 64 left out
abbrev pub with_number : List ℕ → ℕ → List ℕ
with_number numbers n = if length numbers == 64 then drop 1 numbers ++ n ∷ [] else numbers ++ n ∷ []

-- a breakpoint that was made is temporary
abbrev pub with_temporary : Held → (made : Option ℕ) → Held
with_temporary h None = h
with_temporary h (Some n) = record h { temporaries = with_number h.temporaries n }

-- a command line is displayed from now on, where fewer than 16 are and a number is left
abbrev pub with_display : Held → (text : List ℕ) → Held
with_display h text =
    if nat_lt (length h.displays) 16 && nat_lt h.next 10000000
    then record h { displays = h.displays ++ (h.next, held_text text) ∷ []; next = h.next + 1 } else h

-- without what has a number, or without all
abbrev pub without_display : Held → (number : Option ℕ) → Held
without_display h None = record h { displays = [] }
without_display h (Some n) = record h { displays = filter (λ entry. not (entry.0 == n)) h.displays }

-- a number of steps is noted, where fewer than 64 are and a number is left
abbrev pub with_checkpoint : Held → (step : ℕ) → Held
with_checkpoint h step =
    if nat_lt (length h.checkpoints) 64 && nat_lt h.next_checkpoint 10000000
    then record h { checkpoints = h.checkpoints ++ (h.next_checkpoint, step) ∷ []; next_checkpoint = h.next_checkpoint + 1 } else h

-- without what was noted by a number, or without all
abbrev pub without_checkpoint : Held → (number : Option ℕ) → Held
without_checkpoint h None = record h { checkpoints = [] }
without_checkpoint h (Some n) = record h { checkpoints = filter (λ entry. not (entry.0 == n)) h.checkpoints }

-- the number of steps that lead to what was noted by a number
abbrev pub step_in : List (ℕ × ℕ) → (number : ℕ) → Option ℕ
step_in [] n = None
step_in (entry ∷ entries) n = if entry.0 == n then Some entry.1 else step_in entries n

abbrev pub step_noted : Held → (number : Option ℕ) → Option ℕ
step_noted h None = None
step_noted h (Some n) = step_in h.checkpoints n
