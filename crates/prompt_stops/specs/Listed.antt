-- The lines of breakpoints and watches: how `commands` lists them, and which of them wait to be done.
use Rattle.std.specs.Prelude.{ℕ, ◌+◌, ◌-◌, ◌==◌, ◌&&◌, Bool, true, false, not, nat_lt, List, [], ◌∷◌, ◌++◌, filter, length, Option, Some, codes, if◌then◌else◌}
use Rattle.std.specs.List.{list_any}
use Rattle.arrayvec.specs.ArrayVec.{ArrayVec}
use Rattle.gang_model.specs.Debugger.Debugger.{Debugger}
use Rattle.gang_model.specs.Texts.Spellings.{Word, behind}
use Rattle.gang_model.specs.Texts.Text.{Bytes}
use Rattle.prompt_lines.specs.Conditions.{first_word}
use Rattle.prompt_lines.specs.Numbers.{are_numbers}
use Rattle.prompt_lines.specs.Words.{held_text, is_alone}
use Rattle.prompt_scenes.specs.declared.holding.LastMove.{LastMove}
use Rattle.prompt_scenes.specs.Holding.{Held}
use Rattle.prompt_scenes.specs.declared.scene.ListedLine.{ListedLine}
use Rattle.prompt_scenes.specs.declared.holding.LastMove.TheVariants as last
use Rattle.prompt_stops.specs.Numbers.{numbers_named}
use Rattle.prompt_stops.specs.declared.lists.Lists as declared

-- the lines of breakpoints and watches, each with the number of its own; those whose list is read, and in how many lists a line
-- stands that is read; the lines that wait
pub record Lists : Type 0 where
  pub lines : List ListedLine
  pub numbers : List ℕ
  pub depth : ℕ
  pub waiting : List (ArrayVec ℕ)

-- what is there at the start
abbrev pub no_lists : Lists
no_lists = record { lines = []; numbers = []; depth = 0; waiting = [] }

-- ---- lines that say where a list begins and ends

-- whether nothing follows a word
abbrev pub is_all : Option (List ℕ) → Bool
is_all (Some []) = true
is_all rest = false

-- whether a line begins with a word
abbrev pub begins_with : Word → (line : List ℕ) → Bool
begins_with word line = is_all (behind word (first_word line))

abbrev pub is_word : Word → (line : List ℕ) → Bool
is_word word line = is_alone line && begins_with word line

abbrev pub begins_list : (line : List ℕ) → Bool
begins_list line = begins_with (codes "commands") line

-- ---- lists that are read

-- whether a list is read
abbrev pub is_reading : Lists → Bool
is_reading lists = nat_lt 0 lists.depth

-- whether lines wait
abbrev pub is_waiting : Lists → Bool
is_waiting lists = not (length lists.waiting == 0)

-- whether a number is one of these
abbrev pub is_among : List ℕ → ℕ → Bool
is_among numbers number = list_any (λ n. n == number) numbers

-- one more line of a breakpoint or watch, where fewer than 128 lines are there
abbrev pub with_one : ℕ → (line : List ℕ) → List ListedLine → List ListedLine
with_one number line lines = if nat_lt (length lines) 128 then lines ++ record { number = number; text = record { items = line } } ∷ [] else lines

-- the same of each
abbrev pub with_each : (numbers : List ℕ) → (line : List ℕ) → List ListedLine → List ListedLine
with_each [] line lines = lines
with_each (number ∷ numbers) line lines = with_each numbers line (with_one number line lines)

-- one more line of the list, where it has at most 256 bytes
abbrev pub with_line : (line : List ℕ) → Lists → Lists
with_line line lists = if nat_lt (length line) 257 then record lists { lines = with_each lists.numbers (held_text line) lists.lines } else lists

-- a line stands in one more list, where it stands in fewer than 100
abbrev pub deeper : ℕ → ℕ
deeper depth = if nat_lt depth 100 then depth + 1 else depth

-- a line `end`: the list ends, or one that stands within it
abbrev pub ended : (line : List ℕ) → Lists → Lists
ended line lists = if nat_lt 1 lists.depth then with_line line (record lists { depth = lists.depth - 1 }) else record lists { depth = 0 }

-- a line of the list; one that begins a list within it opens that
abbrev pub added : (line : List ℕ) → Lists → Lists
added line lists = with_line line (if begins_list line then record lists { depth = deeper lists.depth } else lists)

-- what a line leads to where a list is read: `silent` is left out
abbrev pub read : (line : List ℕ) → Lists → Lists
read line lists = if is_word (codes "end") line then ended line lists else (if is_word (codes "silent") line then lists else added line lists)

-- what is told where the input ends within a list
abbrev pub unended : Bytes
unended = codes "The input ends within a list, before its line `end`.\n"

-- ---- lists that begin

-- the largest of some numbers
abbrev pub largest : (found : ℕ) → List ℕ → ℕ
largest found [] = found
largest found (number ∷ numbers) = largest (if nat_lt found number then number else found) numbers

-- of some numbers the last one that was given
abbrev pub newest : List ℕ → List ℕ
newest [] = []
newest (number ∷ numbers) = largest number numbers ∷ []

-- the breakpoints and watches whose lines are to be read: those that are named, or the one that was made last
abbrev pub numbers_for : Debugger → Held → (line : List ℕ) → List ℕ
numbers_for d h line =
    if are_numbers line then (if is_alone line then newest (numbers_named d h line) else numbers_named d h line) else []

-- without the lines of some
abbrev pub without : (numbers : List ℕ) → List ListedLine → List ListedLine
without numbers lines = filter (λ l. not (is_among numbers l.number)) lines

-- their list begins: they have no lines then
abbrev pub listed : (numbers : List ℕ) → Lists → Lists
listed [] lists = lists
listed (number ∷ numbers) lists = record lists { lines = without (number ∷ numbers) lists.lines; numbers = number ∷ numbers; depth = 1 }

-- ---- lines that wait

-- the lines of a breakpoint or watch
abbrev pub lines_of : ℕ → List ListedLine → List (ArrayVec ℕ)
lines_of number [] = []
lines_of number (l ∷ lines) = if l.number == number then l.text ∷ lines_of number lines else lines_of number lines

-- the lines that wait after one: those of what stopped its move, none where nothing did, and the same as before where it made no move
abbrev pub waiting_after : LastMove → Lists → List (ArrayVec ℕ)
waiting_after last.Still lists = lists.waiting
waiting_after last.Free lists = []
waiting_after (last.Stopped number) lists = lines_of number lists.lines

-- the numbers of all breakpoints and watches
abbrev pub all_there : Debugger → Held → List ℕ
all_there d h = numbers_named d h (codes "delete")

-- the lines of some alone
abbrev pub within : (numbers : List ℕ) → List ListedLine → List ListedLine
within numbers lines = filter (λ l. is_among numbers l.number) lines

-- after a line: what waits, and the lines of those that are there
abbrev pub settled : LastMove → (there : List ℕ) → Lists → Lists
settled move there lists = record lists { lines = within there lists.lines; waiting = waiting_after move lists }

-- ---- lists as they are held

-- what is held of lists, as the definitions have it
abbrev pub lists_of : declared.Lists → Lists
lists_of lists = record { lines = lists.lines.items; numbers = lists.numbers.items; depth = lists.depth; waiting = lists.waiting.items }
