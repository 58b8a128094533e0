-- The pages of a terminal: how many lines were shown, and where it waits.
use Rattle.std.specs.Prelude.{◌≡◌, ◌<◌, ◌==◌, ◌||◌, ℕ, suc, nat_lt, Bool, true, false, not, List, [], ◌∷◌, Option, Some, None, if◌then◌else◌}
use Rattle.terminal_lines.specs.declared.pages.Pages.{Pages}
use Rattle.terminal_lines.specs.declared.pages.Way.{Way}
use Rattle.terminal_lines.specs.declared.pages.Way.TheVariants.{Waits, GoesOn, Ends}

-- where a terminal waits behind each page, fewer lines were shown since it waited than a page has: the last one is that of its question
abbrev pub IsWithin : Pages → Type 0
IsWithin pages = pages.way ≡ Waits → 0 < pages.height → pages.shown < pages.height

-- whether it waits behind a page
abbrev pub waits : Way → Bool
waits Waits = true
waits other = false

-- whether lines still come
abbrev pub goes_on : Way → Bool
goes_on Ends = false
goes_on other = true

-- the lines of a page: one of a single line could only ask
abbrev pub least_height : ℕ → ℕ
least_height height = if height == 1 then 2 else height

-- pages before their first line
abbrev pub new_pages : (height : ℕ) → Pages
new_pages height = record { height = least_height height; shown = 0; way = Waits }

-- the pages behind one more line; none where the terminal waits before it
abbrev pub behind : Pages → Option Pages
behind pages =
    if not (waits pages.way) || (pages.height == 0) then Some pages
    else if nat_lt (suc pages.shown) pages.height then Some (record pages { shown = suc pages.shown })
    else None

-- what an answer that begins with a byte chooses: `q` ends, `c` shows the rest, anything else a page
abbrev pub way_of : ℕ → Way
way_of byte = if (byte == 113) || (byte == 81) then Ends else if (byte == 99) || (byte == 67) then GoesOn else Waits

abbrev pub chosen : (typed : List ℕ) → Way
chosen [] = Waits
chosen (byte ∷ rest) = way_of byte
